-- A lengthened disk still stores what it stored.
use Rattle.cow_tree.proofs.Prelude.{All, All-weaker, Image, List, RootValue, ℕ, ap, arith, reached, subst, sym, ◌<◌, ◌∙◌, ◌≡◌}
use Rattle.roots.specs.Slots.{is_open, IsSpelledBy, IsLaterThan, IsCurrent}
use Rattle.roots.specs.declared.slot.Slot.TheVariants.{A, B}
use Rattle.cow_tree.specs.Longer.{StandsWhereLonger}
use Rattle.cow_tree.proofs.Standing.{stores_same}

current_same : (root : RootValue) (a b : Image) → a 0 ≡ b 0 → a 1 ≡ b 1 → a 2 ≡ b 2 → a 3 ≡ b 3 → IsCurrent root a → IsCurrent root b
current_same root a b e0 e1 e2 e3 (A, h) = (
  A,
  record {
    opened = ap is_open (sym e0) ∙ h.opened;
    here = subst (λ (l : List ℕ). IsSpelledBy root l) e1 h.here;
    greatest = λ shown. subst (λ (l : List ℕ). IsLaterThan root l) e3 (h.greatest (ap is_open e2 ∙ shown));
  },
)
current_same root a b e0 e1 e2 e3 (B, h) = (
  B,
  record {
    opened = ap is_open (sym e2) ∙ h.opened;
    here = subst (λ (l : List ℕ). IsSpelledBy root l) e3 h.here;
    greatest = λ shown. subst (λ (l : List ℕ). IsLaterThan root l) e1 (h.greatest (ap is_open e0 ∙ shown));
  },
)

pub stands_where_longer : StandsWhereLonger
stands_where_longer sectors more image longer stored le same stands =
    let laid_out = stands.2.laid_out in
    let rule = laid_out.page_rule in
    let size = laid_out.store.1 in
    let current = current_same stands.0 image longer (same 0 (omega (arith, size))) (same 1 (omega (arith, size))) (same 2 (omega (arith, size))) (same 3 (omega (arith, size))) laid_out.store.0 in
    let on : All (λ p. image p ≡ longer p) (reached stands.1) = All-weaker (λ p. p < sectors) (λ p. image p ≡ longer p) (λ p below. same p below) (reached stands.1) rule.high in
    let here = stores_same sectors stands.0 stands.1 stored image longer current on stands.2 in (
      stands.0,
      stands.1,
      record {
        laid_out = record {
          store = (here.laid_out.store.0, omega (arith, le, size));
          entries = here.laid_out.entries;
          records = here.laid_out.records;
          page_rule = record {
            low = rule.low;
            high = All-weaker (λ p. p < sectors) (λ p. p < more) (λ p below. omega (arith, le, below)) (reached stands.1) rule.high;
            once = rule.once;
          };
        };
        stands = here.stands;
      },
    )
