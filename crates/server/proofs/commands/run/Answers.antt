use Rattle.std.proofs.Common.{[], ◌∷◌, None, Some, inl, inr, refl}
use Rattle.server.specs.Places.{Opens}
use Rattle.server.proofs.commands.run.Goals as goal

pub returns-in-Format : goal.returns-in-Format
returns-in-Format g c = rw c.in-Format.is (c.format.ensures.0, c.format.ensures.1, ([], (refl, refl, c.format.ensures.2)))

pub returns-in-Import : goal.returns-in-Import
returns-in-Import g c = rw c.in-Import.is (c.import.ensures.0, c.import.ensures.1, (c.import.ensures.2.0, (refl, c.import.ensures.2.1)))

pub returns-in-Table : goal.returns-in-Table
returns-in-Table g c = rw c.in-Table.is ([], refl, ([], (refl, refl, refl, c.table.ensures)))

pub returns-in-Some : goal.returns-in-Some
returns-in-Some g c =
    let (sessions, did) = c.serve_store.ensures in
    rw c.in-Serve.is (Opens c.in-Serve.path.now (Some c.in-Some.disk) ∷ [], (c.open.new.self, c.in-Some.ensures, refl), (sessions, inr (c.in-Some.disk, c.serve_store.result.0, refl, c.exit_on.ensures.disk, rw c.exit_on.ensures.status did)))

pub returns-in-None : goal.returns-in-None
returns-in-None g c = rw c.in-Serve.is (Opens c.in-Serve.path.now None ∷ [], (c.open.new.self, c.in-None.ensures, refl), ([], inl (refl, (refl, c.not_opened.ensures.none, refl, c.not_opened.ensures.told))))

pub returns-in-Some-open : goal.returns-in-Some-open
returns-in-Some-open g c =
    let (sessions, did) = c.check_store.ensures in
    rw c.in-Check.is (Opens c.in-Check.path.now (Some c.in-Some-open.disk) ∷ [], (c.open-in-Check.new.self, c.in-Some-open.ensures, refl), (sessions, (refl, inr (c.in-Some-open.disk, c.check_store.result.0, refl, c.exit_on-in-Some-open.ensures.disk, rw c.exit_on-in-Some-open.ensures.status did))))

pub returns-in-None-open : goal.returns-in-None-open
returns-in-None-open g c = rw c.in-Check.is (Opens c.in-Check.path.now None ∷ [], (c.open-in-Check.new.self, c.in-None-open.ensures, refl), ([], (refl, inl (refl, c.not_opened-in-None-open.ensures.none, refl, c.not_opened-in-None-open.ensures.told))))

pub returns-in-Some-open-2 : goal.returns-in-Some-open-2
returns-in-Some-open-2 g c =
    let (sessions, did) = c.grow_and_upgrade.ensures in
    rw c.in-Upgrade.is (Opens c.in-Upgrade.path.now (Some c.in-Some-open-2.disk) ∷ [], (c.open-in-Upgrade.new.self, c.in-Some-open-2.ensures, refl), (sessions, (refl, inr (c.in-Some-open-2.disk, c.grow_and_upgrade.result.0, refl, c.exit_on-in-Some-open-2.ensures.disk, rw c.exit_on-in-Some-open-2.ensures.status did))))

pub returns-in-None-open-2 : goal.returns-in-None-open-2
returns-in-None-open-2 g c = rw c.in-Upgrade.is (Opens c.in-Upgrade.path.now None ∷ [], (c.open-in-Upgrade.new.self, c.in-None-open-2.ensures, refl), ([], (refl, inl (refl, c.not_opened-in-None-open-2.ensures.none, refl, c.not_opened-in-None-open-2.ensures.told))))
