use Rattle.levels.proofs.Prelude.{Bool, Contains, HeldLabelling, IsEntered, List, ap, arith, cond, insert, is_ok, refl, subst, sym, true, ◌∙◌, ◌≡◌}
use Rattle.levels.proofs.Caches.Caching.{entered_one, inserted_or_not}
use Rattle.levels.proofs.labelling_cache.LabellingCache.hold.Goals as goal

pub returns-clause-entered : goal.returns-clause-entered
returns-clause-entered c m d u valid entered =
    let held = c.make_room.new.self.held.items in
    let was = c.make_room.ensures.entered m d u entered in
    subst (λ (l : List HeldLabelling). IsEntered m d l u) (sym c.insert.ensures.items)
    (inserted_or_not (λ (l : List HeldLabelling). IsEntered m d l u) (is_ok c.insert.result) (insert held 0 (record { place = c.args.t; labelling = c.args.labelling })) held
    (entered_one m d c.args.t c.args.labelling u held 0 valid was) was)

pub returns-clause-held : goal.returns-clause-held
returns-clause-held c same room =
    let held = c.make_room.new.self.held.items in
    let one : HeldLabelling = record { place = c.args.t; labelling = c.args.labelling } in
    let there : is_ok c.insert.result ≡ true = c.insert.ensures.succeeds (omega (arith, room, c.make_room.ensures.fewer, c.make_room.ensures.capacity)) in
    subst (λ (l : List HeldLabelling). Contains l one) (sym (c.insert.ensures.items ∙ ap (λ (b : Bool). cond b (insert held 0 one) held) there)) (0, omega arith, refl)
