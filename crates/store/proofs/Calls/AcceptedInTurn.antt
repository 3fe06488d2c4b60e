-- The contents after some commands, and then after more.
use Rattle.std.proofs.Common.{rules}
use Rattle.store.proofs.Prelude.{ComesBy, Command, Contents, IsMadeOf, List, Mosaic, Since, ℕ, [], ap, arith, doubted_too, inl, inr, length, length-append, made_by, refl, subst, sym, ◌++◌, ◌+◌, ◌∙◌, ◌∷◌, ◌≡◌}
use Rattle.std.specs.Prelude.{Ok, Option, Some, unwrap_or}
use Rattle.edits.specs.Effect.{effect, unless_refused, after, accepted}

module _ (capacity : ℕ) where
  after_both : (m : Mosaic) (xs ys : List Command) → after capacity m (xs ++ ys) ≡ after capacity (after capacity m xs) ys
  after_both m [] ys = refl
  after_both m (x ∷ xs) ys = after_both (unless_refused m (effect capacity m x)) xs ys

  accepted_both : (m : Mosaic) (xs ys : List Command) → accepted capacity m (xs ++ ys) ≡ accepted capacity m xs + accepted capacity (after capacity m xs) ys
  accepted_both m [] ys = omega arith
  accepted_both m (x ∷ xs) ys = let rest = accepted_both (unless_refused m (effect capacity m x)) xs ys in omega (arith, rest)

  pub comes_by_both : (a b c : Contents) (xs ys : List Command) → ComesBy capacity a xs b → ComesBy capacity b ys c → ComesBy capacity a (xs ++ ys) c
  comes_by_both a b c xs ys first second =
      let lengths = length-append xs ys in
      let moved : accepted capacity (after capacity a.mosaic xs) ys ≡ length ys = ap (λ (m : Mosaic). accepted capacity m ys) (sym first.mosaic) ∙ second.none_refused in
      let both = accepted_both a.mosaic xs ys in
      let one = first.none_refused in
      let counts = first.count in
      let counted = second.count in
      record {
        mosaic = second.mosaic ∙ ap (λ (m : Mosaic). after capacity m ys) first.mosaic ∙ sym (after_both a.mosaic xs ys);
        none_refused = omega (arith, lengths, moved, both, one);
        count = omega (arith, lengths, counts, counted);
      }

  -- No commands make the same contents.
  pub by_none : (c : Contents) → ComesBy capacity c [] c
  by_none c = record { mosaic = refl; none_refused = refl; count = omega arith }

  -- Commands that make contents also make any contents with the same mosaic and count.
  pub as_well : (a b c : Contents) (commands : List Command) → ComesBy capacity a commands b → c.mosaic ≡ b.mosaic → c.count ≡ b.count → ComesBy capacity a commands c
  as_well a b c commands comes mosaic count = record { mosaic = mosaic ∙ comes.mosaic; none_refused = comes.none_refused; count = count ∙ comes.count }

  by_one : (a b : Contents) (c : Command) (new : Mosaic) → effect capacity a.mosaic c ≡ Ok new → b ≡ made_by a c new → ComesBy capacity a (c ∷ []) b
  by_one a b c new makes is = search rules

  -- one more command
  pub one_more : (a b made : Contents) (commands : List Command) (c : Command) (new : Mosaic) → ComesBy capacity a commands b → effect capacity b.mosaic c ≡ Ok new → made ≡ made_by b c new → ComesBy capacity a (commands ++ c ∷ []) made
  one_more a b made commands c new comes makes is = comes_by_both a b made commands (c ∷ []) comes (by_one b made c new makes is)

  -- The first command in doubt stays the one in doubt.
  pub still_doubted : (was : Contents) (since : Since) (c : Command) (made : Contents) → IsMadeOf capacity was since made → IsMadeOf capacity was (doubted_too since c) made
  still_doubted was since c made (commands, inl is, comes, keeps) = (commands, inl is, comes, keeps)
  still_doubted was since c made (commands, inr (d, some, is), comes, keeps) = (commands, inr (d, ap (λ (doubt : Option Command). Some (unwrap_or doubt c)) some, is), comes, keeps)
