-- Questions one after another, and their refusals.
use Rattle.catalogue.proofs.Asking.{asked, asked_on, asked_passed}
use Rattle.catalogue.proofs.Reading.{reads_as, reads_nothing, reads_on}
use Rattle.catalogue.specs.Asked.{Asked}
use Rattle.catalogue.specs.Readers.{OnlyReads}
use Rattle.catalogue.specs.declared.samples.Samples.{Ghosts}
use Rattle.lattice.specs.declared.refusal.Refusal.{Refusal}
use Rattle.lattice.specs.declared.refusal.Refusal.TheVariants.{Damaged, NoMemory}
use Rattle.std.proofs.Common.{Err, Ok, Result, ap, inl, inr, subst, sym, ◌∙◌, ◌≡◌, ◌⊎◌}
use Rattle.std.proofs.lemmas.Result.{err_from_is_err_and}
use Rattle.std.specs.Prelude.{IfErr, IsErrAnd}

-- In a question that was answered, each read was answered.
pub asked_reads : {S T : Type 0} (g : Ghosts S) (a b : S) (x : T) → Asked g a b (Ok x) → OnlyReads {T = Unit {0}} g a b (Ok tt)
asked_reads {S} {T} g a b x h = by h.read h.reads h.passed
  where
    by : (read : Result (Unit {0}) Refusal) → OnlyReads g a b read → IfErr read (λ r. ◌≡◌ {A = Result T Refusal} (Ok x) (Err r)) → OnlyReads {T = Unit {0}} g a b (Ok tt)
    by (Ok u) reads passed = reads_as g a b u tt reads
    by (Err r) reads passed = absurd (cc)

-- a question after one that was answered
pub asked_then : {S T U : Type 0} (g : Ghosts S) (keeps_on : (a b c : S) → g.keeps a b → g.keeps b c → g.keeps a c) (a b c : S) (x : T) (result : Result U Refusal) → Asked g a b (Ok x) → Asked g b c result → Asked g a c result
asked_then g keeps_on a b c x result first then_ = asked_on g keeps_on a b c tt result (asked_reads g a b x first) then_

-- an answer after reads, or a refusal if the samples aren't those of a mosaic
pub answered : {S T : Type 0} (g : Ghosts S) (a b : S) (x : T) → OnlyReads {T = Unit {0}} g a b (Ok tt) → Asked g a b (Ok x)
answered {S} {T} g a b x reads = asked g a b (tt {0}) (Ok x) reads tt (λ _ _ e. absurd (cc))

pub stopped : {S T : Type 0} (g : Ghosts S) (a b : S) → OnlyReads {T = Unit {0}} g a b (Ok tt) → (g.is_honest b → ⊥) → Asked {T = T} g a b (Err Damaged)
stopped {S} {T} g a b reads never = asked g a b (tt {0}) (Err Damaged) reads tt (λ honest _ _. never honest)

-- a refusal that another question passes on
pub passed_on : {S T U : Type 0} (g : Ghosts S) (a b : S) (call : Result T Refusal) (r : Refusal) → call ≡ Err r → Asked g a b call → Asked {T = U} g a b (Err r)
passed_on {S} {T} {U} g a b call r is h = asked_passed g a b r (subst (λ (x : Result T Refusal). Asked g a b x) is h)

-- a refusal that the operator `?` passes on
pub refused_by : {S U : Type 0} (g : Ghosts S) (a b : S) (result : Result U Refusal) (r : Refusal) → IsErrAnd result (λ was. was ≡ r) → Asked {T = U} g a b (Err r) → Asked g a b result
refused_by {S} {U} g a b result r is h =
    let p = err_from_is_err_and result is in
    subst (λ (x : Result U Refusal). Asked g a b x) (sym (p.1 ∙ ap (λ (x : Refusal). Err x) p.2)) h

-- Memory was refused after reads.
pub wanting : {S U : Type 0} (g : Ghosts S) (a b : S) → OnlyReads {T = Unit {0}} g a b (Ok tt) → Asked {T = U} g a b (Err NoMemory)
wanting {S} {U} g a b reads = asked g a b (tt {0}) (Err NoMemory) reads tt (λ _ _ e. absurd (cc))

-- After reads a question was refused with NoMemory, or because the samples aren't those of a mosaic.
pub own_ended : {S T : Type 0} (g : Ghosts S) (a b : S) (r : Refusal) (Q : Type 0) → OnlyReads {T = Unit {0}} g a b (Ok tt) → (r ≡ NoMemory) ⊎ ((r ≡ Damaged) × Q) → (g.is_honest b → Q → ⊥) → Asked {T = T} g a b (Err r)
own_ended {S} {T} g a b r Q reads (inl memory) never = subst (λ (x : Refusal). Asked {T = T} g a b (Err x)) (sym memory) (wanting g a b reads)
own_ended {S} {T} g a b r Q reads (inr (damaged, q)) never = subst (λ (x : Refusal). Asked {T = T} g a b (Err x)) (sym damaged) (stopped g a b reads (λ honest. never honest q))

-- After reads a question was answered, or refused with NoMemory.
pub short_of_memory : {S T : Type 0} (g : Ghosts S) (a b : S) (result : Result T Refusal) → OnlyReads {T = Unit {0}} g a b (Ok tt) → IfErr result (λ r. r ≡ NoMemory) → Asked g a b result
short_of_memory {S} {T} g a b (Ok x) reads none = answered g a b x reads
short_of_memory {S} {T} g a b (Err r) reads none = subst (λ (x : Refusal). Asked {T = T} g a b (Err x)) (sym none) (wanting g a b reads)

-- results without a read: an answer, a refusal because the samples aren't those of a mosaic, and NoMemory
module _ {S T : Type 0} (g : Ghosts S) (keeps_itself : (a : S) → g.keeps a a) (a : S) where
  pub answered_here : (x : T) → Asked g a a (Ok x)
  answered_here x = answered g a a x (reads_nothing g keeps_itself a (tt {0}))

  pub stopped_here : (g.is_honest a → ⊥) → Asked {T = T} g a a (Err Damaged)
  stopped_here never = stopped g a a (reads_nothing g keeps_itself a (tt {0})) never

  pub short_here : (result : Result T Refusal) → IfErr result (λ r. r ≡ NoMemory) → Asked g a a result
  short_here result none = short_of_memory g a a result (reads_nothing g keeps_itself a (tt {0})) none

-- NoMemory after one more question, which was answered
pub short_after : {S T U : Type 0} (g : Ghosts S) (keeps_on : (a b c : S) → g.keeps a b → g.keeps b c → g.keeps a c) (a b c : S) (x : U) (result : Result T Refusal) → OnlyReads {T = Unit {0}} g a b (Ok tt) → Asked g b c (Ok x)
    → IfErr result (λ r. r ≡ NoMemory) → Asked g a c result
short_after g keeps_on a b c x result reads last none = short_of_memory g a c result (reads_on g keeps_on a b c tt (Ok tt) reads (asked_reads g b c x last)) none

-- a question after one more question, which was refused
pub refused_after : {S T U : Type 0} (g : Ghosts S) (keeps_on : (a b c : S) → g.keeps a b → g.keeps b c → g.keeps a c) (a b c : S) (result : Result T Refusal) (r : Refusal) → IsErrAnd result (λ was. was ≡ r)
    → OnlyReads {T = Unit {0}} g a b (Ok tt) → Asked {T = U} g b c (Err r) → Asked g a c result
refused_after g keeps_on a b c result r is reads last = refused_by g a c result r is (asked_passed g a c r (asked_on g keeps_on a b c (tt {0}) (Err r) reads last))
