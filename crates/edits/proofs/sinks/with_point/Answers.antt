use Rattle.edits.proofs.Prelude.{Bool, List, Point, [], ap, ap₂, arith, drop, false, get_or, is_point_before, length, pos, refl, rules, subst, sym, true, with_point, ◌++◌, ◌+◌, ◌∙◌, ◌∷◌, ◌≡◌}
use Rattle.edits.proofs.SinkLists.{rest_of, in_count, put_before, put_later, put_behind}
use Rattle.edits.proofs.sinks.with_point.Goals as goal
use Rattle.edits.proofs.sinks.with_point.Goals.{then-not-is_in+then-lt, else-not-is_in, else-not-is_in-via-then-not-is_in+else-lt, else-not-is_in-via-else-not-is_in}

pub loop-other-preserved : goal.loop-other-preserved
loop-other-preserved c =
    let p = c.args.point in
    let points = c.args.points.now in
    let i = c.loop-other.other-index in
    let d : Point = record { y = pos 0; x = pos 0 } in
    let q : Point = get_or points i d in
    let with = c.loop-other.with.items in
    let within = c.loop-other-test.true in
    let far : Bool → List Point → List Point = λ b l. l ++ rest_of b p (drop (i + 1) points) in
    elim c.if-not-is_in.branch [
      | then-not-is_in+then-lt w ↦
          let out : c.loop-other.is_in ≡ false = search rules in
          let before : is_point_before p q ≡ true = search rules in
          let made = subst (λ (b : Bool). with_point p points ≡ with ++ rest_of b p (drop i points)) out c.loop-other.invariant.made in
          let count : length with ≡ i + in_count false = subst (λ (b : Bool). length with ≡ i + in_count b) out c.loop-other.invariant.count in
          let now = ap (λ v. v.items) w.with-is in
          let items = c.push-in-loop-other.ensures.items ∙ ap (λ (l : List Point). l ++ q ∷ []) (now ∙ w.push.ensures.items) in
          let more = c.push-in-loop-other.ensures.len in
          let longer = ap length now in
          let one = w.push.ensures.len in
          let is_in = ap in_count w.is_in-is in
          record { made = put_before p q points with i d within refl before made ∙ sym (ap₂ far w.is_in-is items); count = omega (arith, more, longer, one, count, is_in) }
      | else-not-is_in w ↦
          let now = ap (λ v. v.items) w.with-is in
          let items = c.push-in-loop-other.ensures.items ∙ ap (λ (l : List Point). l ++ q ∷ []) now in
          let more = c.push-in-loop-other.ensures.len in
          let longer = ap length now in
          let is_in = ap in_count w.is_in-is in
          let count = c.loop-other.invariant.count in
          elim w.else-not-is_in.branch [
            | else-not-is_in-via-then-not-is_in+else-lt v ↦
                let out : c.loop-other.is_in ≡ false = search rules in
                let before : is_point_before p q ≡ false = search rules in
                let made = subst (λ (b : Bool). with_point p points ≡ with ++ rest_of b p (drop i points)) out c.loop-other.invariant.made in
                record { made = put_later p q points with i d within refl before made ∙ sym (ap₂ far (w.is_in-is ∙ out) items); count = omega (arith, more, longer, count, is_in) }
            | else-not-is_in-via-else-not-is_in v ↦
                let in_it : c.loop-other.is_in ≡ true = search rules in
                let made = subst (λ (b : Bool). with_point p points ≡ with ++ rest_of b p (drop i points)) in_it c.loop-other.invariant.made in
                record { made = put_behind p q points with i d within refl made ∙ sym (ap₂ far (w.is_in-is ∙ in_it) items); count = omega (arith, more, longer, count, is_in) }
          ]
    ]
