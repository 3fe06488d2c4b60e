-- An image has one current root, and opening has one answer.
use Rattle.std.proofs.Common.{◌≡◌, ◌⊎◌, inl, inr, ◌≤◌, ◌<◌, ℕ, List, Option, Some, None, Result, Ok, Err, Bool, true, false, nat_lt, if◌then◌else◌, refl, sym, ◌∙◌, ap, ap₂, subst, arith}
use Rattle.std.proofs.lemmas.Bool.Decides.{nat_tests}
use Rattle.disk.specs.Disk.{Image}
use Rattle.lattice.specs.declared.refusal.Refusal.{Refusal}
use Rattle.lattice.specs.declared.refusal.Refusal.TheVariants as refusal
use Rattle.page_codec.specs.Roots.{RootValue, format_of}
use Rattle.page_codec.specs.Sizes.{sectors_asked}
use Rattle.page_codec.specs.declared.damaged.Damaged.{Damaged}
use Rattle.page_codec.specs.declared.damaged.Damaged.TheVariants.{Magic, Version, Rule}
use Rattle.page_codec.proofs.RootBytes.{same_roots, root_has_magic, root_has_version}
use Rattle.roots.specs.declared.opening.Found.{Found}
use Rattle.roots.specs.declared.slot.Slot.{Slot}
use Rattle.roots.specs.declared.slot.Slot.TheVariants.{A, B}
use Rattle.roots.specs.Found.{FoundIn}
use Rattle.roots.specs.Opening.{FailsAs, ReadsAs, Holds, later, chosen, fitting, OpensAs, HoldsStore, OpeningAnswersOnce, StoresOpen}
use Rattle.roots.specs.Slots.{is_open, root_sector, IsSpelledBy, IsLaterThan, IsCurrentIn, OneIsCurrent}
use Rattle.roots.proofs.Choice.{found_at}

same_root : (a b : RootValue) (bytes : List ℕ) → IsSpelledBy a bytes → IsSpelledBy b bytes → a ≡ b
same_root a b bytes h k = same_roots a b h.rules k.rules (sym h.spelled ∙ k.spelled)

-- Two roots can't each be later than the other.
crossed : (a b : RootValue) (x y : List ℕ) → IsSpelledBy a x → IsSpelledBy b y → IsLaterThan a y → IsLaterThan b x → a ≡ b
crossed a b x y h k first second =
    let e : first.0.number ≡ b.number = ap (λ (r : RootValue). r.number) (same_root first.0 b y first.1 k) in
    let f : second.0.number ≡ a.number = ap (λ (r : RootValue). r.number) (same_root second.0 a x second.1 h) in
    absurd (omega (arith, e, f, first.2, second.2))

one_in : (s t : Slot) (a b : RootValue) (image : Image) → IsCurrentIn s a image → IsCurrentIn t b image → a ≡ b
one_in A A a b image h k = same_root a b (image 1) h.here k.here
one_in B B a b image h k = same_root a b (image 3) h.here k.here
one_in A B a b image h k = crossed a b (image 1) (image 3) h.here k.here (h.greatest k.opened) (k.greatest h.opened)
one_in B A a b image h k = crossed a b (image 3) (image 1) h.here k.here (h.greatest k.opened) (k.greatest h.opened)

pub one_is_current : OneIsCurrent
one_is_current image a b h k = one_in h.0 k.0 a b image h.1 k.1

fails_once : (bytes : List ℕ) (x y : Damaged) → FailsAs bytes x → FailsAs bytes y → x ≡ y
fails_once bytes Magic Magic h k = refl
fails_once bytes Magic Version h k = absurd (h k.0)
fails_once bytes Magic Rule h k = absurd (h k.0)
fails_once bytes Version Magic h k = absurd (k h.0)
fails_once bytes Version Version h k = refl
fails_once bytes Version Rule h k = absurd (h.1 k.1)
fails_once bytes Rule Magic h k = absurd (k h.0)
fails_once bytes Rule Version h k = absurd (k.1 h.1)
fails_once bytes Rule Rule h k = refl

never_both : (bytes : List ℕ) (root : RootValue) (why : Damaged) → IsSpelledBy root bytes → FailsAs bytes why → ⊥
never_both bytes root Magic h k = k (root_has_magic bytes root h.spelled)
never_both bytes root Version h k = k.1 (root_has_version bytes root h.rules h.spelled)
never_both bytes root Rule h k = k.2 root h

reads_once : (bytes : List ℕ) (x y : Result RootValue Damaged) → ReadsAs bytes x → ReadsAs bytes y → x ≡ y
reads_once bytes (Ok a) (Ok b) h k = ap Ok (same_root a b bytes h k)
reads_once bytes (Ok a) (Err why) h k = absurd (never_both bytes a why h k)
reads_once bytes (Err why) (Ok b) h k = absurd (never_both bytes b why k h)
reads_once bytes (Err x) (Err y) h k = ap Err (fails_once bytes x y h k)

holds_once : (s : Slot) (image : Image) (x y : Option (Result RootValue Damaged)) → Holds s image x → Holds s image y → x ≡ y
holds_once s image None None h k = refl
holds_once s image None (Some y) h k = absurd (cc (sym h ∙ k.0))
holds_once s image (Some x) None h k = absurd (cc (sym k ∙ h.0))
holds_once s image (Some x) (Some y) h k = ap Some (reads_once (image (root_sector s)) x y h.1 k.1)

pub answers_once : OpeningAnswersOnce
answers_once sectors image x y (inl h) (inl k) = h.1 ∙ sym k.1
answers_once sectors image x y (inl h) (inr k) = absurd (omega (arith, h.0, k.0))
answers_once sectors image x y (inr h) (inl k) = absurd (omega (arith, h.0, k.0))
answers_once sectors image x y (inr h) (inr k) =
    let a = holds_once A image h.1.0 k.1.0 h.1.2 k.1.2 in
    let b = holds_once B image h.1.1 k.1.1 h.1.3 k.1.3 in
    h.1.4 ∙ ap₂ (λ (p q : Option (Result RootValue Damaged)). fitting sectors (chosen p q)) a b ∙ sym k.1.4

later_first : (a b : RootValue) → b.number < a.number → later a b ≡ Ok a
later_first a b less = grind (arith, nat_tests, less)

later_second : (a b : RootValue) → a.number < b.number → later a b ≡ Ok b
later_second a b less = grind (arith, nat_tests, less)

-- the slot and value of the current root, by the contents of both slots
pub chosen_is : (s : Slot) (o : Bool) (root : RootValue) (a b : Option (Result RootValue Damaged)) → FoundIn s o root a b → chosen a b ≡ Ok root
chosen_is A false root a b f = ap₂ chosen f.0 f.1
chosen_is A true root a b f = ap₂ chosen f.0 f.1.1 ∙ later_first root f.1.0 f.1.2
chosen_is B false root a b f = ap₂ chosen f.1 f.0
chosen_is B true root a b f = ap₂ chosen f.1.1 f.0 ∙ later_second f.1.0 root f.1.2

fits : (sectors needed : ℕ) (root : RootValue) → needed ≤ sectors → let x : Result RootValue Refusal = (if nat_lt sectors needed then Err refusal.TooSmall else Ok root) in x ≡ Ok root
fits sectors needed root le = grind (arith, nat_tests, le)

-- If `later` of two roots is Ok, one root is in a slot and the other slot's root is earlier.
chosen_two : (a b root : RootValue) → later a b ≡ Ok root → (s : Slot) × FoundIn s true root (Some (Ok a)) (Some (Ok b))
chosen_two a b root e = go (nat_lt a.number b.number) (nat_lt b.number a.number) refl refl
  where
    go : (p q : Bool) → nat_lt a.number b.number ≡ p → nat_lt b.number a.number ≡ q → (s : Slot) × FoundIn s true root (Some (Ok a)) (Some (Ok b))
    go true q is _ =
        let less : a.number < b.number = grind (arith, nat_tests, is) in
        let same : b ≡ root = cc (sym (later_second a b less) ∙ e) in
        (B, (ap (λ (r : RootValue). Some (Ok r)) same, (a, refl, subst (λ (r : RootValue). a.number < r.number) same less)))
    go false true _ is =
        let less : b.number < a.number = grind (arith, nat_tests, is) in
        let same : a ≡ root = cc (sym (later_first a b less) ∙ e) in
        (A, (ap (λ (r : RootValue). Some (Ok r)) same, (b, refl, subst (λ (r : RootValue). b.number < r.number) same less)))
    go false false p q =
        let same : a.number ≡ b.number = grind (arith, nat_tests, p, q) in
        let refused : later a b ≡ Err refusal.Damaged = grind (arith, nat_tests, same) in
        absurd (cc (sym refused ∙ e))

chosen_found : (root : RootValue) (a b : Option (Result RootValue Damaged)) → chosen a b ≡ Ok root → (s : Slot) × (o : Bool) × FoundIn s o root a b
chosen_found root None None e = absurd (cc e)
chosen_found root (Some (Err why)) None e = absurd (cc e)
chosen_found root (Some (Err why)) (Some b) e = absurd (cc e)
chosen_found root None (Some (Err why)) e = absurd (cc e)
chosen_found root (Some (Ok a)) (Some (Err why)) e = absurd (cc e)
chosen_found root (Some (Ok a)) None e = (A, false, (ap (λ (r : Result RootValue Refusal). Some (back r)) e, refl))
  where
    back : Result RootValue Refusal → Result RootValue Damaged
    back (Ok r) = Ok r
    back (Err why) = Err Magic
chosen_found root None (Some (Ok b)) e = (B, false, (ap (λ (r : Result RootValue Refusal). Some (back r)) e, refl))
  where
    back : Result RootValue Refusal → Result RootValue Damaged
    back (Ok r) = Ok r
    back (Err why) = Err Magic
chosen_found root (Some (Ok a)) (Some (Ok b)) e = let two = chosen_two a b root e in (two.0, true, two.1)

fitting_ok : (sectors : ℕ) (root : RootValue) (x : Result RootValue Refusal) → Ok root ≡ fitting sectors x → (x ≡ Ok root) × (sectors_asked (format_of root) ≤ sectors)
fitting_ok sectors root (Err why) e = absurd (cc e)
fitting_ok sectors root (Ok r) e = go (nat_lt sectors (sectors_asked (format_of r))) refl e
  where
    go : (p : Bool) → nat_lt sectors (sectors_asked (format_of r)) ≡ p → Ok root ≡ (if p then Err refusal.TooSmall else Ok r) → (let x : Result RootValue Refusal = Ok r in x ≡ Ok root) × (sectors_asked (format_of root) ≤ sectors)
    go true is e = absurd (cc e)
    go false is e =
        let same : r ≡ root = cc e in
        let le : sectors_asked (format_of r) ≤ sectors = grind (arith, nat_tests, is) in
        (sym e, subst (λ (q : RootValue). sectors_asked (format_of q) ≤ sectors) same le)

opened_holds : (sectors : ℕ) (image : Image) (root : RootValue) → OpensAs sectors image (Ok root) → HoldsStore sectors image root
opened_holds sectors image root (inl h) = absurd (cc h.1)
opened_holds sectors image root (inr h) =
    let fit = fitting_ok sectors root (chosen h.1.0 h.1.1) h.1.4 in
    let found = chosen_found root h.1.0 h.1.1 fit.0 in
    ((found.0, (found_at found.0 found.1 root h.1.0 h.1.1 image found.2 h.1.2 h.1.3).current), fit.1)

-- the contents of both slots, where the root in one is current
holds_found : (s : Slot) (root : RootValue) (image : Image) → IsCurrentIn s root image → (a b : Option (Result RootValue Damaged)) × Holds A image a × Holds B image b × ((o : Bool) × FoundIn s o root a b)
holds_found A root image h = go (is_open (image 2)) refl
  where
    go : (p : Bool) → is_open (image 2) ≡ p → (a b : Option (Result RootValue Damaged)) × Holds A image a × Holds B image b × ((o : Bool) × FoundIn A o root a b)
    go true is = let e = h.greatest is in (Some (Ok root), Some (Ok e.0), (h.opened, h.here), (is, e.1), (true, (refl, (e.0, refl, e.2))))
    go false is = (Some (Ok root), None, (h.opened, h.here), is, (false, (refl, refl)))
holds_found B root image h = go (is_open (image 0)) refl
  where
    go : (p : Bool) → is_open (image 0) ≡ p → (a b : Option (Result RootValue Damaged)) × Holds A image a × Holds B image b × ((o : Bool) × FoundIn B o root a b)
    go true is = let e = h.greatest is in (Some (Ok e.0), Some (Ok root), (is, e.1), (h.opened, h.here), (true, (refl, (e.0, refl, e.2))))
    go false is = (None, Some (Ok root), is, (h.opened, h.here), (false, (refl, refl)))

holds_opened : (sectors : ℕ) (image : Image) (root : RootValue) → HoldsStore sectors image root → OpensAs sectors image (Ok root)
holds_opened sectors image root h =
    let held = holds_found h.0.0 root image h.0.1 in
    let is = chosen_is h.0.0 held.4.0 root held.0 held.1 held.4.1 in
    let large : 4 ≤ sectors = omega (arith, h.1) in
    inr (large, (held.0, held.1, held.2, held.3, sym (ap (fitting sectors) is ∙ fits sectors (sectors_asked (format_of root)) root h.1)))

pub stores_open : StoresOpen
stores_open sectors image root = (opened_holds sectors image root, holds_opened sectors image root)

-- If the image is a store's, opening answers its root.
pub only_root : (sectors : ℕ) (image : Image) (root : RootValue) (x : Result RootValue Refusal) → HoldsStore sectors image root → OpensAs sectors image x → x ≡ Ok root
only_root sectors image root x h opens = answers_once sectors image x (Ok root) opens (holds_opened sectors image root h)

-- So opening a store's image is refused only for a fault of the disk.
pub store_refused : (sectors : ℕ) (image : Image) (root : RootValue) (why : Refusal) → HoldsStore sectors image root
    → (let answer : Result Found Refusal = Err why in answer ≡ Err refusal.Device) ⊎ OpensAs sectors image (Err why) → why ≡ refusal.Device
store_refused sectors image root why h (inl e) = cc e
store_refused sectors image root why h (inr opens) = absurd (cc (only_root sectors image root (Err why) h opens))
