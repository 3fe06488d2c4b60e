use Rattle.std.proofs.Common.{rules, SFits, w16, ◌≡◌, ◌==◌, ℕ, zero, suc, ◌+◌, ◌-◌, ◌<◌, ◌≤◌, inl, inr, ℤ, Option, Some, None, true, cond, List, [], ◌∷◌, ◌++◌, length, vec_len, get_or, set, refl, sym, ap, ◌∙◌, subst, arith, get_or-set_other, get_or-set_same}
use Rattle.std.specs.Prelude.{is_ok, not}
use Rattle.std.proofs.Math.ListN.{replicate}
use Rattle.std.proofs.lemmas.Bool.{cond-true}
use Rattle.levels.proofs.Prelude.{eqb_tells, level_of, take_all, to_z-of_z}
use Rattle.levels.specs.declared.rims.RimLevels.TheInside.{Inside}
use Rattle.levels.proofs.rims.RimLevels.know.Goals as goal
use Rattle.levels.proofs.rims.RimLevels.know.Goals.{else-place-len-via-then-place-len+else-is_err, else-place-len-via-else-place-len}

abbrev blanks : ℕ → List (Option ℤ)
blanks k = replicate k None

blank : (k x : ℕ) → get_or (blanks k) x None ≡ None
blank zero x = refl
blank (suc k) zero = refl
blank (suc k) (suc x) = blank k x

padded : (old : List (Option ℤ)) (k x : ℕ) → level_of (old ++ replicate k None) x ≡ level_of old x
padded [] k x = blank k x
padded (o ∷ rest) k zero = refl
padded (o ∷ rest) k (suc x) = padded rest k x

known_more : (old ys : List (Option ℤ)) (node : ℕ) (level : ℤ) → node < length ys → ((x : ℕ) → level_of ys x ≡ level_of old x) → (x : ℕ) → level_of (set ys node (Some level)) x ≡ cond (node == x) (Some level) (level_of old x)
known_more old ys node level below same x = elim (eqb_tells node x) [
  | inl is ↦ ap (level_of (set ys node (Some level))) (sym is.1) ∙ get_or-set_same ys node (Some level) None below ∙ sym (ap (λ b. cond b (Some level) (level_of old x)) is.0)
  | inr other ↦ get_or-set_other ys node x (Some level) None (λ e. other.1 (sym e)) ∙ same x ∙ sym (ap (λ b. cond b (Some level) (level_of old x)) other.0)
]

pub returns-clause-known : goal.returns-clause-known
returns-clause-known c x =
    let old = c.args.self.now in
    let ys = c.else-place-len.self-inside.levels.items in
    let fits : SFits w16 c.args.level = search rules in
    let was : c.self.inside.levels.items ≡ old = c.self.view_is in
    ap (λ (v : ℤ). level_of (set ys c.args.node (Some v)) x) (to_z-of_z w16 c.args.level fits)
    ∙ (elim c.else-place-len.branch [
      | else-place-len-via-then-place-len+else-is_err w ↦
          let done : is_ok w.resize.result ≡ true = w.is_err.ensures.negation ∙ ap not w.if-is_err.false in
          let longer : length c.self.inside.levels.items ≤ c.args.node + 1 = omega (arith, c.self.inside.levels.ok.0, c.len.ensures, w.if-place-len.true) in
          let is : w.resize.new.self.items ≡ c.self.inside.levels.items ++ replicate (c.args.node + 1 - vec_len c.self.inside.levels) None =
          w.resize.ensures.items ∙ cond-true (is_ok w.resize.result) _ _ done ∙ ap (λ (l : List (Option ℤ)). l ++ replicate (c.args.node + 1 - vec_len c.self.inside.levels) None) (take_all (c.args.node + 1) c.self.inside.levels.items longer) in
          let size : vec_len w.resize.new.self ≡ c.args.node + 1 = w.resize.ensures.len ∙ cond-true (is_ok w.resize.result) _ _ done in
          let there : ys ≡ w.resize.new.self.items = ap (λ (i : Inside). i.levels.items) w.self-inside-is in
          known_more old ys c.args.node c.args.level (subst (λ (l : List (Option ℤ)). c.args.node < length l) (sym there) (omega (arith, w.resize.new.self.ok.0, size)))
          (λ z. ap (λ (l : List (Option ℤ)). level_of l z) (there ∙ is) ∙ padded c.self.inside.levels.items _ z ∙ ap (λ (l : List (Option ℤ)). level_of l z) was) x
      | else-place-len-via-else-place-len w ↦
          let there : ys ≡ c.self.inside.levels.items = ap (λ (i : Inside). i.levels.items) w.self-inside-is in
          known_more old ys c.args.node c.args.level (subst (λ (l : List (Option ℤ)). c.args.node < length l) (sym there) (omega (arith, c.self.inside.levels.ok.0, c.len.ensures, w.if-place-len.false)))
          (λ z. ap (λ (l : List (Option ℤ)). level_of l z) (there ∙ was)) x
    ])
