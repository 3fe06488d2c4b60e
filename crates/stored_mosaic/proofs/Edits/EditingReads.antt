-- A command planned by reading the tree.
use Rattle.stored_mosaic.proofs.Prelude.{AppliesNot, Command, Corner, Damaged, Device, Err, Failed, Ghosts, HasOnlyRead, HasRisen, HasStaged, IfErr, IsErrOf, IsTrue, MayRefuse, Ok, OnErr, OnOk, Refusal, Result, State, Tree, ℕ, effect, false, is_own, may_end, reads_of, refl, subst, sym, ◌≡◌, ◌≢◌}
use Rattle.engine.proofs.Applying.{plan_refused}
use Rattle.page_map.specs.PageMaps.{PageMapValue, HasFreshHeights}
pub use Rattle.cow_tree.proofs.Uncommitted.{reading}

-- If reads are refused only with Device, any other refusal isn't a read's.
pub none_refused : (r : Refusal) → r ≢ Device → IfErr (reads_of {T = Unit {0}} (Err r)) (λ x. x ≡ Device) → reads_of {T = Unit {0}} (Err r) ≡ Ok tt
none_refused Device other only = absurd (other refl)
none_refused Failed other only = absurd (let e : Failed ≡ Device = only in cc)
none_refused Damaged other only = absurd (let e : Damaged ≡ Device = only in cc)
none_refused _ other only = refl

-- The refusal is that of the command's tests, or NoMemory.
pub refused_so : {T : Type 0} (capacity : ℕ) (s : State) (command : Command) (result : Result T Refusal) → s.failed ≡ false
    → IfErr result (λ r. IsTrue (may_end command r)) → IfErr (reads_of result) (λ r. r ≡ Device)
    → IfErr result (λ r. IsTrue (is_own command r) → effect capacity s.contents.mosaic command ≡ Err r)
    → IfErr result (λ r. r ≢ Device → AppliesNot capacity s command r s)
refused_so capacity s command (Ok x) works causes only own = tt
refused_so capacity s command (Err r) works causes only own = λ other. plan_refused capacity s command r works causes (none_refused r other only) own

-- If a refused read ended the call, the count of failures has risen, and the tree has failed.
device_read : {T : Type 0} (result : Result T Refusal) (P : Result (Unit {0}) Refusal → Type 0) → P (reads_of result) → IsErrOf result Device → P (Err Device)
device_read {T} result P reads is = let so : P (reads_of {T = T} (Err Device)) = subst (λ (r : Result T Refusal). P (reads_of r)) is reads in so

pub risen_read : {T : Type 0} (result : Result T Refusal) (before now : ℕ) → IfErr (reads_of result) (MayRefuse before now) → IsErrOf result Device → HasRisen before now
risen_read result before now = device_read result (λ read. IfErr read (MayRefuse before now))

pub fails_read : {T : Type 0} (result : Result T Refusal) (P : Type 0) → OnErr (reads_of result) P → IsErrOf result Device → P
fails_read result P = device_read result (λ read. OnErr read P)

-- After an answer the tree hasn't failed.
pub works_read : {T : Type 0} (result : Result T Refusal) (P : Type 0) → OnOk (reads_of result) P → OnOk result P
works_read (Ok x) P reads = reads
works_read (Err r) P reads = tt

-- After a refusal that isn't a read's the tree hasn't failed.
pub quiet_read : {T : Type 0} (result : Result T Refusal) (P : Type 0) → IfErr (reads_of result) (λ r. r ≡ Device) → OnOk (reads_of result) P → IfErr result (λ r. r ≢ Device → (r ≢ Failed) × P)
quiet_read (Ok x) P only ready = tt
quiet_read (Err Device) P only ready = λ other. absurd (other refl)
quiet_read (Err Failed) P only ready = λ other. absurd (let e : Failed ≡ Device = only in cc)
quiet_read (Err Damaged) P only ready = λ other. absurd (let e : Damaged ≡ Device = only in cc)
quiet_read (Err r) P only ready = λ other. ((λ e. cc), ready)
