use Rattle.std.specs.Prelude.{Bool, List, true, false, length, ◌<◌, ◌≤◌, ◌*◌}
use Rattle.std.proofs.Common.{get_or, rules, subst, sym, ◌≡◌}
use Rattle.tile_labellings.proofs.held_spills.HeldSpills.renewed.Goals as goal

pub returns-then-not-has_changed : goal.returns-then-not-has_changed
returns-then-not-has_changed c =
    let bands = c.args.self.bands.items in
    let was = c.requires.1.1.1 in
    let counted : c.len.result ≡ length bands = search rules in (
      record {
        few = subst (λ n. length bands ≤ n) c.requires.1.0 was.0.few;
        whole = subst (λ n. n ≤ length bands * 32) c.requires.1.0 was.0.whole;
        each = λ b d below.
            let off = c.has_changed.ensures c.if-not-has_changed.true b (subst (λ k. b < k) (sym counted) below) in
            c.requires.1.1.0 b (get_or bands b d).items (subst (λ (l : List Bool). b < length l) c.deref.ensures.value off.0) (subst (λ (l : List Bool). get_or l b true ≡ false) c.deref.ensures.value off.1) (was.0.each b d below);
      },
      was.1,
    )

pub renew_bands-requires-clause-still : goal.renew_bands-requires-clause-still
renew_bands-requires-clause-still c b d below flagged off =
    c.requires.1.1.0 b (get_or c.args.self.bands.items b d).items (subst (λ (l : List Bool). b < length l) c.deref-2.ensures.value flagged) (subst (λ (l : List Bool). get_or l b true ≡ false) c.deref-2.ensures.value off)
    (c.requires.1.1.1.0.each b d below)
