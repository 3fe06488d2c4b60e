-- Changes that set void points, part by part.
use Rattle.edits.proofs.Prelude.{All, Bool, CanBeSet, Change, Ghosts, List, Mosaic, Ok, OnlyReads, Point, Sets, ℤ, false, reads_nothing, reads_on, subst, true, ◌||◌, ◌≡◌}
use Rattle.edits.proofs.Plans.Setting.{fits_kept, sets_kept, sets_none, sets_on}

-- The void points that pass the test have been set.
pub record ArePut {S : Type 0} (g : Ghosts S) (test : Mosaic → Point → Bool) (s : ℤ) (old now : S) (before changes : List Change) : Type 0 where
  pub reads : OnlyReads {T = Unit {0}} g old now (Ok tt)
  pub fits : All (CanBeSet (g.side_of old) (g.corners old)) before → All (CanBeSet (g.side_of old) (g.corners old)) changes
  pub sets : g.is_honest now → Sets (g.side_of old) (g.corners old) (test (g.mosaic old)) s before changes

module _ {S : Type 0} (g : Ghosts S) (s : ℤ) where
  pub none_put : ((s : S) → g.keeps s s) → (test : Mosaic → Point → Bool) → ((m : Mosaic) (p : Point) → test m p ≡ false) → (old : S) (changes : List Change) → ArePut g test s old old changes changes
  none_put keeps_itself test none old changes = record {
    reads = reads_nothing g keeps_itself old tt;
    fits = λ fit. fit;
    sets = λ _. sets_none (g.side_of old) (g.corners old) (test (g.mosaic old)) s (none (g.mosaic old)) changes;
  }

  pub put_on : ((a b c : S) → g.keeps a b → g.keeps b c → g.keeps a c) → (first second both : Mosaic → Point → Bool) → ((m : Mosaic) (p : Point) → both m p ≡ (first m p || second m p)) → ((m : Mosaic) (p : Point) → first m p ≡ true → second m p ≡ true → ⊥) →
      (old mid now : S) (a b c : List Change) → ArePut g first s old mid a b → OnlyReads {T = Unit {0}} g mid now (Ok tt) →
      (All (CanBeSet (g.side_of mid) (g.corners mid)) b → All (CanBeSet (g.side_of mid) (g.corners mid)) c) →
      (g.is_honest now → Sets (g.side_of mid) (g.corners mid) (second (g.mosaic mid)) s b c) → ArePut g both s old now a c
  put_on keeps_on first second both joined disjoint old mid now a b c so read fit sets = record {
    reads = reads_on g keeps_on old mid now tt (Ok tt) so.reads read;
    fits = λ before. fits_kept (g.side_of mid) (g.side_of old) (g.corners mid) (g.corners old) b c so.reads.side so.reads.corners fit (so.fits before);
    sets = λ honest. sets_on (g.side_of old) (g.corners old) (first (g.mosaic old)) (second (g.mosaic old)) (both (g.mosaic old)) s (joined (g.mosaic old)) (disjoint (g.mosaic old)) a b c (so.sets (read.honest honest))
        (sets_kept (second (g.mosaic old)) s (g.side_of mid) (g.side_of old) (g.corners mid) (g.corners old) b c so.reads.side so.reads.corners
        (subst (λ (m : Mosaic). Sets (g.side_of mid) (g.corners mid) (second m) s b c) (so.reads.mosaic (read.honest honest)) (sets honest)));
  }
