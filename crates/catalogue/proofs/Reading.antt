-- Several reads in a row count as one read.
use Rattle.std.proofs.Common.{rules}
use Rattle.catalogue.proofs.Prelude.{Damaged, Device, Err, Failed, Ghosts, IfErr, Ok, OnlyReads, Refusal, Result, ℕ, arith, reads_of, refl, ◌∙◌, ◌≡◌, ◌≤◌}
use Rattle.catalogue.specs.Reading.{HasRisen, MayRefuse}

module _ {S : Type 0} (g : Ghosts S) where
  -- a read that was answered
  pub reads_answered : {T : Type 0} (a b : S) (x : T) → (g.is_ready a → g.is_ready b) → (g.never_refuses a → g.never_refuses b)
      → g.side_of b ≡ g.side_of a → g.corners b ≡ g.corners a → g.sinks_of b ≡ g.sinks_of a → g.failures a ≤ g.failures b
      → (g.is_honest b → g.is_honest a) → (g.is_honest b → g.mosaic b ≡ g.mosaic a) → g.keeps a b → OnlyReads {T = T} g a b (Ok x)
  reads_answered a b x ready never_refuses side corners sinks failures honest mosaic keeps = record {
    refusal = tt;
    only_device = λ _. tt;
    ready = ready;
    unready = tt;
    answers = λ _. refl;
    never_refuses = never_refuses;
    side = side;
    corners = corners;
    sinks = sinks;
    failures = failures;
    honest = honest;
    mosaic = mosaic;
    keeps = keeps;
  }

  -- The value in an Ok doesn't matter.
  pub reads_as : {T U : Type 0} (a b : S) (x : T) (y : U) → OnlyReads {T = T} g a b (Ok x) → OnlyReads {T = U} g a b (Ok y)
  reads_as a b x y h = reads_answered a b y h.ready h.never_refuses h.side h.corners h.sinks h.failures h.honest h.mosaic h.keeps

  -- a refusal that is passed on
  pub reads_refused : {T U : Type 0} (a b : S) (r : Refusal) → OnlyReads {T = T} g a b (Err r) → OnlyReads {T = U} g a b (Err r)
  reads_refused a b r h = search rules

  -- the case of no read
  pub reads_nothing : {T : Type 0} (keeps_itself : (s : S) → g.keeps s s) (s : S) (x : T) → OnlyReads {T = T} g s s (Ok x)
  reads_nothing keeps_itself s x = search rules

  pub reads_on : {T U : Type 0} (keeps_on : (a b c : S) → g.keeps a b → g.keeps b c → g.keeps a c) (a b c : S) (x : T) (result : Result U Refusal)
      → OnlyReads {T = T} g a b (Ok x) → OnlyReads g b c result → OnlyReads g a c result
  reads_on keeps_on a b c x result first second = search rules

  -- a call that may also be refused for other reasons
  pub reads_for : {T : Type 0} (a b : S) (result : Result T Refusal) → OnlyReads {T = T} g a b result → OnlyReads {T = Unit {0}} g a b (reads_of result)
  reads_for a b (Ok x) h = reads_as a b x tt h
  reads_for a b (Err Device) h = reads_refused a b Device h
  reads_for a b (Err Failed) h = reads_refused a b Failed h
  reads_for a b (Err Damaged) h = reads_refused a b Damaged h
  reads_for a b (Err _) h = absurd h.refusal
