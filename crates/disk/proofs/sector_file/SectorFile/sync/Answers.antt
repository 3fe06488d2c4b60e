use Rattle.std.proofs.Common.{◌≡◌, ℕ, List, ◌∷◌, Bool, true, false, is_ok, sym, ◌∙◌, ap, subst}
use Rattle.disk.specs.FileCalls.{Answered, synced, forgotten, aside, cleared}
use Rattle.disk.specs.FileSteps.{recorded, unsynced_of, WritesAgain, Mends, Syncs}
use Rattle.disk.specs.declared.unsynced.Unsynced.{Unsynced}
use Rattle.disk.specs.declared.unsynced.Unsynced.TheVariants.{Lone}
use Rattle.disk.proofs.sector_file.SectorFile.sync.Goals as goal

lone_mended : (ok let_go again : Bool) (s : ℕ) (old failed new : List Answered) → ok ≡ false → unsynced_of old ≡ Lone s → failed ≡ forgotten let_go ∷ synced ok ∷ aside (cleared ok) ∷ old → WritesAgain s failed new again → Syncs old new ok
lone_mended true let_go again s old failed new bad alone same wrote = absurd (cc bad)
lone_mended false let_go again s old failed new bad alone same wrote =
    let left = forgotten let_go ∷ synced false ∷ aside (cleared false) ∷ old in
    let mended : Mends (Lone s) left new = (again, subst (λ (calls : List Answered). WritesAgain s calls new again) same wrote) in
    (let_go, subst (λ (u : Unsynced). Mends u left new) (sym alone) mended)

pub returns-in-Lone-clause-told : goal.returns-in-Lone-clause-told
returns-in-Lone-clause-told c =
    let was = recorded c.args.self.now.calls in
    lone_mended (is_ok c.sync-answer.result) (is_ok c.forget.result) (is_ok c.write_again.result) c.in-Lone.s was (recorded c.forget.new.self) (recorded c.write_again.new.file)
    (sym c.is_ok.ensures.value ∙ c.if-is_ok.false) (sym c.args.self.now.told ∙ c.in-Lone.is)
    (c.forget.ensures ∙ ap (λ (calls : List Answered). forgotten (is_ok c.forget.result) ∷ calls) c.sync-answer.ensures.noted) c.write_again.ensures
