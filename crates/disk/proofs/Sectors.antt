-- The invariant of a disk in memory: its sectors are those that the recorded calls leave.
use Rattle.std.proofs.Common.{if◌then◌else◌, ◌==◌, ◌≡◌, ◌≢◌, inl, inr, ℕ, zero, suc, ◌<◌, ◌≤◌, nat_lt, List, [], ◌∷◌, ◌++◌, length, set, get_or, map, slice_get, Some, Bool, true, false, refl, sym, ◌∙◌, ap, subst, arith, length-append, length-set, get_or-set_same, get_or-set_other}
use Rattle.std.proofs.lemmas.Bool.{cases_eq}
use Rattle.std.proofs.lemmas.Bool.Decides.{nat_tests}
use Rattle.std.proofs.lemmas.List.{get_or-map, length-map}
use Rattle.disk.specs.Memory.{State, happens, replay, at_first, torn_bytes, left_by}
use Rattle.disk.specs.Record.{bytes_written, is_write, bytes_of, is_recorded, is_unsettled, settled_content, torn_content, left_content, blank, settled_with, IsSectorOf, IsReplay}
use Rattle.disk.specs.declared.torn.Torn.{Torn}
use Rattle.disk.specs.declared.torn.Torn.TheVariants.{Old, New, Fill}
use Rattle.disk.specs.declared.memory.Call.{Call}
use Rattle.disk.specs.declared.memory.Call.TheVariants.{Wrote, Synced, StoppedAt, Stopped}
use Rattle.disk.specs.declared.sector.Content.{Content}
use Rattle.disk.specs.declared.sector.Content.TheVariants.{Filled, Written}
use Rattle.disk.specs.declared.sector.Sector.{Sector}
use Rattle.disk.proofs.Replay.{replay_last}

-- A recorded write stays in a longer record.
got_more : (calls more : List Call) (i : ℕ) → is_write (slice_get calls i) ≡ true → slice_get (calls ++ more) i ≡ slice_get calls i
got_more [] more i h = cc
got_more (call ∷ calls) more zero h = refl
got_more (call ∷ calls) more (suc i) h = got_more calls more i h

newest : (calls : List Call) (call : Call) → slice_get (calls ++ call ∷ []) (length calls) ≡ Some call
newest [] call = refl
newest (first ∷ calls) call = newest calls call

bytes_more : (calls more : List Call) (content : Content) → is_recorded calls content ≡ true → bytes_of (calls ++ more) content ≡ bytes_of calls content
bytes_more calls more (Filled byte) h = refl
bytes_more calls more (Written i) h = ap bytes_written (got_more calls more i h)

recorded_more : (calls more : List Call) (content : Content) → is_recorded calls content ≡ true → is_recorded (calls ++ more) content ≡ true
recorded_more calls more (Filled byte) h = refl
recorded_more calls more (Written i) h = ap is_write (got_more calls more i h) ∙ h

one_recorded : (calls : List Call) (b : Bool) (x y : Content) → is_recorded calls x ≡ true → is_recorded calls y ≡ true → is_recorded calls (if b then x else y) ≡ true
one_recorded calls true x y hx hy = hx
one_recorded calls false x y hx hy = hy

torn_recorded : (calls : List Call) (torn : Torn) (sector : Sector) → is_recorded calls sector.seen ≡ true → is_recorded calls sector.settled ≡ true → is_recorded calls (torn_content torn sector) ≡ true
torn_recorded calls Old sector seen settled = settled
torn_recorded calls New sector seen settled = seen
torn_recorded calls (Fill byte) sector seen settled = refl

left_is : (calls : List Call) (torn : Torn) (sector : Sector) (b : Bool) (settled seen : List ℕ) → bytes_of calls sector.seen ≡ seen → bytes_of calls (if b then sector.settled else sector.seen) ≡ settled
    → bytes_of calls (if b then torn_content torn sector else sector.seen) ≡ (if b then torn_bytes torn settled seen else seen)
left_is calls torn sector false settled seen h k = h
left_is calls Old sector true settled seen h k = k
left_is calls New sector true settled seen h k = h
left_is calls (Fill byte) sector true settled seen h k = refl

lt_zero : (n : ℕ) → nat_lt n 0 ≡ false
lt_zero n = grind (arith, nat_tests)

-- a sector that the call doesn't change
same_sector : (st after : State) (calls : List Call) (call : Call) (synced : ℕ) (sector : Sector) (k : ℕ) → st.seen k ≡ after.seen k → st.settled k ≡ after.settled k → st.unsettled k ≡ after.unsettled k
    → IsSectorOf st calls synced sector k → IsSectorOf after (calls ++ call ∷ []) synced sector k
same_sector st after calls call synced sector k seen settled unsettled is = record {
  seen_is = bytes_more calls (call ∷ []) sector.seen is.seen_recorded ∙ is.seen_is ∙ seen;
  settled_is = bytes_more calls (call ∷ []) (settled_content synced sector) (one_recorded calls (is_unsettled synced sector) sector.settled sector.seen is.settled_recorded is.seen_recorded) ∙ is.settled_is ∙ settled;
  unsettled_is = is.unsettled_is ∙ unsettled;
  seen_recorded = recorded_more calls (call ∷ []) sector.seen is.seen_recorded;
  settled_recorded = recorded_more calls (call ∷ []) sector.settled is.settled_recorded;
  written_before = omega (arith, is.written_before, length-append calls (call ∷ []));
}

wrote_sector : (st : State) (calls : List Call) (synced s : ℕ) (bytes : List ℕ) (sector : Sector) → synced ≤ length calls → IsSectorOf st calls synced sector s
    → IsSectorOf (happens st (Wrote s bytes)) (calls ++ Wrote s bytes ∷ []) synced (record { seen = Written (length calls); settled = settled_content synced sector; written = length (calls ++ Wrote s bytes ∷ []) }) s
wrote_sector st calls synced s bytes sector le is = record {
  seen_is = ap bytes_written (newest calls (Wrote s bytes)) ∙ sym (at_s bytes (st.seen s));
  settled_is = ap (λ (b : Bool). bytes_of (calls ++ Wrote s bytes ∷ []) (if b then settled_content synced sector else Written (length calls))) past
      ∙ bytes_more calls (Wrote s bytes ∷ []) (settled_content synced sector) recorded ∙ is.settled_is;
  unsettled_is = past ∙ sym (at_s true (st.unsettled s));
  seen_recorded = ap is_write (newest calls (Wrote s bytes));
  settled_recorded = recorded_more calls (Wrote s bytes ∷ []) (settled_content synced sector) recorded;
  written_before = omega arith;
}
  where
    at_s : {A : Type 0} (x y : A) → (if s == s then x else y) ≡ x
    at_s x y = grind (arith, nat_tests)

    recorded : is_recorded calls (settled_content synced sector) ≡ true
    recorded = one_recorded calls (is_unsettled synced sector) sector.settled sector.seen is.settled_recorded is.seen_recorded

    longer : synced < length (calls ++ Wrote s bytes ∷ [])
    longer = omega (arith, le, length-append calls (Wrote s bytes ∷ []))

    past : nat_lt synced (length (calls ++ Wrote s bytes ∷ [])) ≡ true
    past = let h = longer in grind (arith, nat_tests)

synced_sector : (st : State) (calls : List Call) (synced : ℕ) (sector : Sector) (k : ℕ) → IsSectorOf st calls synced sector k
    → IsSectorOf (happens st Synced) (calls ++ Synced ∷ []) (length (calls ++ Synced ∷ [])) sector k
synced_sector st calls synced sector k is = record {
  seen_is = seen;
  settled_is = ap (λ (b : Bool). bytes_of (calls ++ Synced ∷ []) (if b then sector.settled else sector.seen)) past ∙ seen;
  unsettled_is = past;
  seen_recorded = recorded_more calls (Synced ∷ []) sector.seen is.seen_recorded;
  settled_recorded = recorded_more calls (Synced ∷ []) sector.settled is.settled_recorded;
  written_before = omega (arith, is.written_before, length-append calls (Synced ∷ []));
}
  where
    seen : bytes_of (calls ++ Synced ∷ []) sector.seen ≡ st.seen k
    seen = bytes_more calls (Synced ∷ []) sector.seen is.seen_recorded ∙ is.seen_is

    longer : sector.written ≤ length (calls ++ Synced ∷ [])
    longer = omega (arith, is.written_before, length-append calls (Synced ∷ []))

    past : nat_lt (length (calls ++ Synced ∷ [])) sector.written ≡ false
    past = let h = longer in grind (arith, nat_tests)

stopped_sector : (st after : State) (calls : List Call) (call : Call) (synced : ℕ) (torn : Torn) (sector : Sector) (k : ℕ)
    → after.seen k ≡ left_by torn st k → after.settled k ≡ left_by torn st k → after.unsettled k ≡ false
    → IsSectorOf st calls synced sector k → IsSectorOf after (calls ++ call ∷ []) synced (settled_with (left_content torn synced sector)) k
stopped_sector st after calls call synced torn sector k seen settled unsettled is = record {
  seen_is = left ∙ sym seen;
  settled_is = ap (λ (b : Bool). bytes_of (calls ++ call ∷ []) (if b then left_content torn synced sector else left_content torn synced sector)) (lt_zero synced) ∙ left ∙ sym settled;
  unsettled_is = lt_zero synced ∙ sym unsettled;
  seen_recorded = recorded_more calls (call ∷ []) (left_content torn synced sector) recorded;
  settled_recorded = recorded_more calls (call ∷ []) (left_content torn synced sector) recorded;
  written_before = omega arith;
}
  where
    recorded : is_recorded calls (left_content torn synced sector) ≡ true
    recorded = one_recorded calls (is_unsettled synced sector) (torn_content torn sector) sector.seen (torn_recorded calls torn sector is.seen_recorded is.settled_recorded) is.seen_recorded

    left : bytes_of (calls ++ call ∷ []) (left_content torn synced sector) ≡ left_by torn st k
    left = bytes_more calls (call ∷ []) (left_content torn synced sector) recorded
        ∙ left_is calls torn sector (is_unsettled synced sector) (st.settled k) (st.seen k) is.seen_is is.settled_is
        ∙ ap (λ (b : Bool). if b then torn_bytes torn (st.settled k) (st.seen k) else st.seen k) is.unsettled_is

-- a list of sectors in which the call sets one
module _ (sectors : List Sector) (synced s : ℕ) (calls later : List Call) (call : Call) (same : later ≡ calls ++ call ∷ []) (lt : s < length sectors) (is : IsReplay sectors synced calls) where
  abbrev st : State
  st = replay at_first calls

  set_replays : (sector : Sector) → IsSectorOf (happens st call) (calls ++ call ∷ []) synced sector s
      → ((k : ℕ) → k ≢ s → (st.seen k ≡ (happens st call).seen k) × (st.settled k ≡ (happens st call).settled k) × (st.unsettled k ≡ (happens st call).unsettled k))
      → IsReplay (set sectors s sector) synced later
  set_replays sector here others = record {
    synced_before = omega (arith, is.synced_before, ap length same, length-append calls (call ∷ []));
    each = λ k k_lt. subst (λ (l : List Call). IsSectorOf (replay at_first l) l synced (get_or (set sectors s sector) k blank) k) (sym same)
        (subst (λ (u : State). IsSectorOf u (calls ++ call ∷ []) synced (get_or (set sectors s sector) k blank) k) (sym (replay_last calls (calls ++ call ∷ []) call refl)) (at k (omega (arith, k_lt, length-set sectors s sector))));
  }
    where
      at : (k : ℕ) → k < length sectors → IsSectorOf (happens st call) (calls ++ call ∷ []) synced (get_or (set sectors s sector) k blank) k
      at k k_lt = elim (cases_eq k s) [
        | inl equal ↦ subst (λ (j : ℕ). IsSectorOf (happens st call) (calls ++ call ∷ []) synced (get_or (set sectors s sector) j blank) j) (sym equal)
            (subst (λ (x : Sector). IsSectorOf (happens st call) (calls ++ call ∷ []) synced x s) (sym (get_or-set_same sectors s sector blank lt)) here)
        | inr other ↦ subst (λ (x : Sector). IsSectorOf (happens st call) (calls ++ call ∷ []) synced x k) (sym (get_or-set_other sectors s k sector blank other))
            (same_sector st (happens st call) calls call synced (get_or sectors k blank) k (others k other).0 (others k other).1 (others k other).2 (is.each k k_lt))
      ]

pub wrote_replays : (sectors : List Sector) (synced s : ℕ) (bytes : List ℕ) (calls later : List Call) → later ≡ calls ++ Wrote s bytes ∷ [] → s < length sectors → IsReplay sectors synced calls
    → (sector : Sector) → sector ≡ record { seen = Written (length calls); settled = settled_content synced (get_or sectors s blank); written = length later } → IsReplay (set sectors s sector) synced later
wrote_replays sectors synced s bytes calls later same lt is sector made =
    set_replays sectors synced s calls later (Wrote s bytes) same lt is sector
    (subst (λ (x : Sector). IsSectorOf (happens (replay at_first calls) (Wrote s bytes)) (calls ++ Wrote s bytes ∷ []) synced x s) (sym (made ∙ ap shape same))
    (wrote_sector (replay at_first calls) calls synced s bytes (get_or sectors s blank) is.synced_before (is.each s lt)))
    (λ k other. (grind (arith, nat_tests), refl, grind (arith, nat_tests)))
  where
    shape : List Call → Sector
    shape l = record { seen = Written (length calls); settled = settled_content synced (get_or sectors s blank); written = length l }

pub stopped_at_replays : (sectors : List Sector) (synced s : ℕ) (torn : Torn) (calls later : List Call) → later ≡ calls ++ StoppedAt s torn ∷ [] → s < length sectors → IsReplay sectors synced calls
    → (sector : Sector) → sector ≡ settled_with (left_content torn synced (get_or sectors s blank)) → IsReplay (set sectors s sector) synced later
stopped_at_replays sectors synced s torn calls later same lt is sector made =
    set_replays sectors synced s calls later (StoppedAt s torn) same lt is sector
    (subst (λ (x : Sector). IsSectorOf (happens (replay at_first calls) (StoppedAt s torn)) (calls ++ StoppedAt s torn ∷ []) synced x s) (sym made)
    (stopped_sector (replay at_first calls) (happens (replay at_first calls) (StoppedAt s torn)) calls (StoppedAt s torn) synced torn (get_or sectors s blank) s (grind (arith, nat_tests)) (grind (arith, nat_tests)) (grind (arith, nat_tests)) (is.each s lt)))
    (λ k other. (grind (arith, nat_tests), grind (arith, nat_tests), grind (arith, nat_tests)))

pub synced_replays : (sectors : List Sector) (synced synced' : ℕ) (calls later : List Call) → later ≡ calls ++ Synced ∷ [] → synced' ≡ length later → IsReplay sectors synced calls → IsReplay sectors synced' later
synced_replays sectors synced synced' calls later same now is = record {
  synced_before = omega (arith, now);
  each = λ k lt. subst (λ (n : ℕ). IsSectorOf (replay at_first later) later n (get_or sectors k blank) k) (sym now)
      (subst (λ (l : List Call). IsSectorOf (replay at_first l) l (length l) (get_or sectors k blank) k) (sym same)
      (subst (λ (u : State). IsSectorOf u (calls ++ Synced ∷ []) (length (calls ++ Synced ∷ [])) (get_or sectors k blank) k) (sym (replay_last calls (calls ++ Synced ∷ []) Synced refl))
      (synced_sector (replay at_first calls) calls synced (get_or sectors k blank) k (is.each k lt))));
}

-- the list of sectors after a stop that settles each of them
pub stopped_replays : (sectors after : List Sector) (synced : ℕ) (torn : Torn) (calls later : List Call) → later ≡ calls ++ Stopped torn ∷ [] → IsReplay sectors synced calls
    → after ≡ map (λ sector. settled_with (left_content torn synced sector)) sectors → IsReplay after synced later
stopped_replays sectors after synced torn calls later same is made = record {
  synced_before = omega (arith, is.synced_before, ap length same, length-append calls (Stopped torn ∷ []));
  each = λ k k_lt. subst (λ (l : List Call). IsSectorOf (replay at_first l) l synced (get_or after k blank) k) (sym same)
      (subst (λ (u : State). IsSectorOf u (calls ++ Stopped torn ∷ []) synced (get_or after k blank) k) (sym (replay_last calls (calls ++ Stopped torn ∷ []) (Stopped torn) refl)) (at k (omega (arith, k_lt, ap length made, length-map sectors settle))));
}
  where
    settle : Sector → Sector
    settle sector = settled_with (left_content torn synced sector)

    at : (k : ℕ) → k < length sectors → IsSectorOf (happens (replay at_first calls) (Stopped torn)) (calls ++ Stopped torn ∷ []) synced (get_or after k blank) k
    at k lt = subst (λ (x : Sector). IsSectorOf (happens (replay at_first calls) (Stopped torn)) (calls ++ Stopped torn ∷ []) synced x k)
        (sym (ap (λ (xs : List Sector). get_or xs k blank) made ∙ get_or-map settle sectors k blank blank lt))
        (stopped_sector (replay at_first calls) (happens (replay at_first calls) (Stopped torn)) calls (Stopped torn) synced torn (get_or sectors k blank) k refl refl refl (is.each k lt))
