-- Reads one after another, and their refusals.
use Rattle.std.proofs.Common.{rules}
use Rattle.cow_tree.proofs.Prelude.{Bool, Err, Ghosts, IfErr, IsErrOf, Ok, Refusal, Result, Roots, arith, disk_of, ended_with, false, has_failed, inl, inr, nothing_twice, refl, subst, sym, ⊎_elim, ◌∙◌, ◌≡◌, ◌⊎◌}
use Rattle.std.specs.Result.{IsErrAnd}
use Rattle.lattice.specs.declared.refusal.Refusal.TheVariants.{Device, NoMemory, Damaged}
use Rattle.cow_tree.specs.OverRoots.{OnlyReads, IsRefusedFor}

pub refused_for : (A B : Type 0) (why : Refusal) → (A → B) → IsRefusedFor A why → IsRefusedFor B why
refused_for A B why implies refused = ⊎_elim (λ h. inl h) (λ rest. inr (⊎_elim (λ h. inl h) (λ h. inr (h.0, implies h.1)) rest)) refused

-- A caller passes the refusal on.
pub handed_on : {T E : Type 0} (P : E → Type 0) (r : Result T E) (e : E) → IsErrAnd r (λ x. x ≡ e) → P e → IfErr r P
handed_on P (Ok x) e same p = tt
handed_on P (Err x) e same p = subst P (sym same) p

-- Reads were made, and none was refused.
abbrev pub HasRead : {D : Type 0} (g : Ghosts D) → Roots D g → Roots D g → Type 0
HasRead g old new = OnlyReads {T = Unit {0}} g old new (Ok tt)

module _ {D : Type 0} (g : Ghosts D) where
  -- One more read was made.
  pub read_on : {T : Type 0} (old mid new : Roots D g) (result : Result T Refusal) → HasRead g old mid → has_failed mid ≡ false → OnlyReads g mid new result → OnlyReads g old new result
  read_on old mid new result first works second = record {
    size = second.size ∙ first.size;
    writes = second.writes ∙ first.writes;
    later = omega (arith, first.later, second.later);
    device = λ is. let risen = second.device is in omega (arith, risen, first.later);
    root = second.root ∙ first.root;
    begun = second.begun ∙ first.begun;
    works = second.works;
    honest = λ h. first.honest (second.honest h);
    seen = λ h. second.seen h ∙ first.seen (second.honest h);
    nothing = λ h. nothing_twice g (disk_of old) (disk_of mid) (disk_of new) (first.nothing (second.honest h)) (second.nothing h);
    ready = λ h r w. second.ready h (first.ready (second.honest h) r works) w;
  }

  -- The same reads were made, and the caller has another answer.
  pub read_as : {T U : Type 0} (old new : Roots D g) (was : Result T Refusal) (now : Result U Refusal) → OnlyReads g old new was → (has_failed new ≡ false) ⊎ IsErrOf now Device → (IsErrOf now Device → IsErrOf was Device) → OnlyReads g old new now
  read_as old new was now reads works same = search rules

pub never_refused : {T A : Type 0} (x : T) (why : Refusal) → IsErrOf (Ok x) why → A
never_refused {T} {A} x why is = cc

pub works_ok : {T : Type 0} (x : T) (failed : Bool) → (failed ≡ false) ⊎ IsErrOf {T = T} {E = Refusal} (Ok x) Device → failed ≡ false
works_ok x failed works = ⊎_elim (λ h. h) (λ is. never_refused x Device is) works

-- A refusal with NoMemory or Damaged isn't Device.
pub not_device : {T A X : Type 0} (r : Result T Refusal) (why : Refusal) → IsErrAnd r (λ e. e ≡ why) → (why ≡ NoMemory) ⊎ ((why ≡ Damaged) × X) → IsErrOf r Device → A
not_device {T} {A} {X} r why ended refused is =
    let here : IsErrOf {T = T} (Err why) Device = subst (λ (q : Result T Refusal). IsErrOf q Device) (ended_with r why ended) is in
    let device : why ≡ Device = cc in
    ⊎_elim (λ memory. (let no : NoMemory ≡ Device = sym memory ∙ device in cc)) (λ damaged. (let no : Damaged ≡ Device = sym damaged.0 ∙ device in cc)) refused

-- ---- the reads of one call as the reads of its caller
device_again : {T U : Type 0} (why : Refusal) → IsErrOf {T = T} {E = Refusal} (Err why) Device → IsErrOf {T = U} {E = Refusal} (Err why) Device
device_again {T} {U} why is = let device : why ≡ Device = cc in subst (λ (w : Refusal). IsErrOf {T = U} {E = Refusal} (Err w) Device) (sym device) refl

module _ {D : Type 0} (g : Ghosts D) where
  -- The caller passes the refusal on.
  pub refused_again : {T U : Type 0} (old new : Roots D g) (why : Refusal) (now : Result U Refusal) → IsErrAnd now (λ e. e ≡ why) → OnlyReads {T = T} g old new (Err why) → OnlyReads g old new now
  refused_again {T} {U} old new why now ended reads =
      subst (λ (r : Result U Refusal). OnlyReads g old new r) (sym (ended_with now why ended))
      (read_as g old new (Err why) (Err why) reads (⊎_elim (λ h. inl h) (λ is. inr (device_again {T = T} {U = U} why is)) reads.works) (λ is. device_again {T = U} {U = T} why is))

  -- The caller answers another value, which is no refusal either.
  pub read_well : {T U : Type 0} (old new : Roots D g) (x : T) (y : U) → OnlyReads g old new (Ok x) → OnlyReads g old new (Ok y)
  read_well old new x y reads = read_as g old new (Ok x) (Ok y) reads (inl (works_ok x (has_failed new) reads.works)) (λ is. never_refused y Device is)

  -- a call after one that wasn't refused
  pub read_after : {T U : Type 0} (old mid new : Roots D g) (x : T) (result : Result U Refusal) → OnlyReads g old mid (Ok x) → OnlyReads g mid new result → OnlyReads g old new result
  read_after old mid new x result first second = read_on g old mid new result (read_well old mid x tt first) (works_ok x (has_failed mid) first.works) second
