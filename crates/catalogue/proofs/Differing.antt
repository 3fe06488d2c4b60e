-- Whether samples differ, during a search.
use Rattle.catalogue.proofs.Prelude.{Bool, List, None, Option, Some, ℤ, differ, list_any, not}
use Rattle.std.specs.Ordering.{int_eq}

-- Two of these samples differ, or one differs from the first that was found.
abbrev pub differ_from : Option ℤ → List ℤ → Bool
differ_from None later = differ later
differ_from (Some s) later = list_any (λ other. not (int_eq s other)) later
