-- Reads and then a question count as one question (`Asked`).
use Rattle.std.proofs.Common.{rules}
use Rattle.std.proofs.Common.{◌≡◌, ◌≢◌, ℕ, ◌⊎◌, inl, inr, Result, Ok, Err, refl, sym, ◌∙◌, ap, subst}
use Rattle.std.specs.Prelude.{IsOk, IfErr, OnOk, IsErrOf}
use Rattle.catalogue.proofs.Prelude.{Ghosts, MayRefuse, OnlyReads, Refusal, reads_of}
use Rattle.lattice.specs.declared.refusal.Refusal.TheVariants.{Device, Failed, NoMemory, Damaged}
use Rattle.catalogue.specs.Asked.{Asked, IsOwnRefusal}
use Rattle.catalogue.proofs.Reading.{reads_as, reads_on, reads_refused}

device_is_other : {T : Type 0} (r : Refusal) → r ≡ Device → ◌≢◌ {A = Result T Refusal} (Err r) (Err Damaged)
device_is_other r e damaged = let same : r ≡ Damaged = cc in absurd (cc)

same_refusal : {T : Type 0} (r r' : Refusal) → ◌≡◌ {A = Result T Refusal} (Err r) (Err r') → r ≡ r'
same_refusal r r' e = cc

module _ {S : Type 0} (g : Ghosts S) where
  -- A refused read refuses the question.
  pub asked_refused : {T U : Type 0} (a b : S) (r : Refusal) → OnlyReads {T = T} g a b (Err r) → Asked {T = U} g a b (Err r)
  asked_refused a b r reads = record {
    read = Err r;
    reads = reads_refused g a b r reads;
    passed = refl;
    own = λ is_ok. absurd (cc);
    sound = λ honest ready. device_is_other r (reads.only_device ready);
  }

  -- Reads that were answered, and then the question's answer or refusal
  pub asked : {T U : Type 0} (a b : S) (x : T) (result : Result U Refusal) → OnlyReads {T = T} g a b (Ok x) → IfErr result IsOwnRefusal
      → (g.is_honest b → g.is_ready a → result ≢ Err Damaged) → Asked g a b result
  asked a b x result reads own sound = record {
    read = Ok tt;
    reads = reads_as g a b x tt reads;
    passed = tt;
    own = λ _. own;
    sound = sound;
  }

  -- a question after reads that were answered
  pub asked_on : {T U : Type 0} (keeps_on : (a b c : S) → g.keeps a b → g.keeps b c → g.keeps a c) (a b c : S) (x : T) (result : Result U Refusal)
      → OnlyReads {T = T} g a b (Ok x) → Asked g b c result → Asked g a c result
  asked_on keeps_on a b c x result first then_ = search rules

  -- a call refused with NoMemory, or with the refusal of its read
  pub asked_by_reads : {T : Type 0} (a b : S) (before now : ℕ) (result : Result T Refusal) → OnlyReads g a b (reads_of result) → IfErr result (λ r. (r ≡ NoMemory) ⊎ MayRefuse before now r)
      → Asked g a b result
  asked_by_reads a b before now (Ok x) reads h = asked a b tt (Ok x) reads tt (λ _ _ e. absurd (cc))
  asked_by_reads {T} a b before now (Err r) reads h = by r reads h
    where
      by : (r : Refusal) → OnlyReads g a b (reads_of {T = T} (Err r)) → (r ≡ NoMemory) ⊎ MayRefuse before now r → Asked {T = T} g a b (Err r)
      by Device reads h = asked_refused a b Device reads
      by Failed reads h = asked_refused a b Failed reads
      by Damaged reads h = asked_refused a b Damaged reads
      by NoMemory reads h = asked a b tt (Err NoMemory) reads tt (λ _ _ e. absurd (cc))
      by _ reads (inl memory) = absurd (cc)
      by _ reads (inr may) = absurd may

  -- a refusal that another question passes on
  pub asked_passed : {T U : Type 0} (a b : S) (r : Refusal) → Asked {T = T} g a b (Err r) → Asked {T = U} g a b (Err r)
  asked_passed {T} {U} a b r h = record {
    read = h.read;
    reads = h.reads;
    passed = as_passed h.read h.passed;
    own = h.own;
    sound = λ honest ready e. let same : r ≡ Damaged = cc in h.sound honest ready (ap (λ (x : Refusal). Err x) same);
  }
    where
      as_passed : (read : Result (Unit {0}) Refusal) → IfErr read (λ x. ◌≡◌ {A = Result T Refusal} (Err r) (Err x)) → IfErr read (λ x. ◌≡◌ {A = Result U Refusal} (Err r) (Err x))
      as_passed (Ok u) e = tt
      as_passed (Err x) e = let same : r ≡ x = cc in ap (λ (y : Refusal). Err y) same

  -- the result of a question that was answered, with no further read
  pub asked_answer : {T U : Type 0} (a b : S) (x : T) (result : Result U Refusal) → Asked {T = T} g a b (Ok x) → IfErr result IsOwnRefusal
      → (g.is_honest b → g.is_ready a → result ≢ Err Damaged) → Asked g a b result
  asked_answer {T} {U} a b x result h own sound = by h.read h.reads h.passed
    where
      by : (read : Result (Unit {0}) Refusal) → OnlyReads g a b read → IfErr read (λ r. ◌≡◌ {A = Result T Refusal} (Ok x) (Err r)) → Asked g a b result
      by (Ok u) reads passed = asked a b u result reads own sound
      by (Err r) reads passed = absurd (cc)

  -- how a question may end, and the samples after it
  module _ {T : Type 0} (a b : S) (result : Result T Refusal) (h : Asked g a b result) where
    -- The answer is Device if the disk refused a read. Then no further read is tried.
    pub asked_risen : IsErrOf result Device → MayRefuse (g.failures a) (g.failures b) Device
    asked_risen is = by h.read h.reads h.passed h.own
      where
        by : (read : Result (Unit {0}) Refusal) → OnlyReads g a b read → IfErr read (λ r. result ≡ Err r) → (IsOk read → IfErr result IsOwnRefusal) → MayRefuse (g.failures a) (g.failures b) Device
        by (Ok u) reads passed own = absurd (subst (λ (r : Result T Refusal). IfErr r IsOwnRefusal) is (own refl))
        by (Err r) reads passed own = let same : r ≡ Device = same_refusal r Device (sym passed ∙ is) in subst (MayRefuse (g.failures a) (g.failures b)) same reads.refusal

    pub asked_fails : IsErrOf result Device → ¬ g.is_ready b
    asked_fails is = by h.read h.reads h.own
      where
        by : (read : Result (Unit {0}) Refusal) → OnlyReads g a b read → (IsOk read → IfErr result IsOwnRefusal) → ¬ g.is_ready b
        by (Ok u) reads own = absurd (subst (λ (r : Result T Refusal). IfErr r IsOwnRefusal) is (own refl))
        by (Err r) reads own = reads.unready

    -- After an answer the samples can still be read.
    pub asked_works : g.is_ready a → OnOk result (g.is_ready b)
    asked_works ready = by result h.read h.reads h.passed
      where
        by : (result : Result T Refusal) (read : Result (Unit {0}) Refusal) → OnlyReads g a b read → IfErr read (λ r. result ≡ Err r) → OnOk result (g.is_ready b)
        by (Ok x) (Ok u) reads passed = reads.ready ready
        by (Ok x) (Err r) reads passed = absurd (cc)
        by (Err r) read reads passed = tt

    -- After a refusal other than the disk's the samples can still be read.
    pub asked_quiet : g.is_ready a → IfErr result (λ r. r ≢ Device → (r ≢ Failed) × g.is_ready b)
    asked_quiet ready = by result h.read h.reads h.passed h.own
      where
        by : (result : Result T Refusal) (read : Result (Unit {0}) Refusal) → OnlyReads g a b read → IfErr read (λ r. result ≡ Err r) → (IsOk read → IfErr result IsOwnRefusal)
            → IfErr result (λ r. r ≢ Device → (r ≢ Failed) × g.is_ready b)
        by (Ok x) read reads passed own = tt
        by (Err r) (Ok u) reads passed own = λ other. ((λ failed. subst IsOwnRefusal failed (own refl)), reads.ready ready)
        by (Err r) (Err r') reads passed own = λ other. absurd (other (same_refusal r r' passed ∙ reads.only_device ready))
