-- A root's bytes after its version: what their parts spell, and that bytes spell one root only.
use Rattle.page_codec.proofs.Prelude.{All, AreInOrder, AreNumbers, AreSinks, EntryValue, IsEntry, IsHeld, IsRoot, List, One, Point, RootValue, Two, Version, ℕ, ap, arith, drop, entry_bytes, flat_map, format_of, length, length-append, length-take, refl, subst, sym, take, take-append-drop, true, ◌++◌, ◌+◌, ◌<◌, ◌^◌, ◌∙◌, ◌≡◌, ◌≤◌}
use Rattle.lattice.specs.Limits.{IsSide, largest_side}
use Rattle.page_codec.specs.Numbers.{zeros, padded, is_all_zero}
use Rattle.page_codec.specs.Formats.{Format, IsFormat, largest_side_of}
use Rattle.page_codec.specs.Sinks.{sink_bytes}
use Rattle.page_codec.specs.declared.header.Header.{Header}
use Rattle.page_codec.specs.Headers.{number_bytes, body_bytes}
use Rattle.page_codec.proofs.Fields.{same_u32, same_u64, same_fronts, length-u32_bytes, length-u64_bytes, length-zeros, zeros_from_all, all_from_zeros}
use Rattle.page_codec.proofs.Padding.{length-padded}
use Rattle.page_codec.proofs.Ordered.{same_padded}
use Rattle.page_codec.proofs.EntryBytes.{one_entry, length_entries}
use Rattle.page_codec.proofs.SinkBytes.{one_sink, length_sinks}

-- Numbers fit their bytes.
pub record HasRoom (h : Header) : Type 0 where
  pub side_fits : h.side < 2 ^ 32
  pub capacity_fits : h.capacity < 2 ^ 32
  pub tiles_fit : h.tiles < 2 ^ 32
  pub number_fits : h.number < 2 ^ 64
  pub count_fits : h.count < 2 ^ 64
  pub sinks_fit : h.sinks < 2 ^ 32

abbrev pub header_of : RootValue → Header
header_of r = record { side = r.side; capacity = r.capacity; tiles = length r.entries; number = r.number; count = r.count; sinks = length r.sinks }

abbrev pub numbers_of : Header → List ℕ
numbers_of h = number_bytes h.side h.capacity h.tiles h.number h.count h.sinks

abbrev pub format_in : Version → Header → Format
format_in version h = record { version = version; side = h.side; capacity = h.capacity }

no_larger : (version : Version) → largest_side_of version ≤ largest_side
no_larger One = omega arith
no_larger Two = omega arith

pub side_known : (f : Format) → IsFormat f → IsSide f.side
side_known f is = (is.side_low, omega (arith, is.side_high, no_larger f.version))

pub has_room : (r : RootValue) → IsRoot r → HasRoom (header_of r)
has_room r rules =
    let n = rules.numbers in
    record {
      side_fits = omega (arith, (side_known (format_of r) n.format).1);
      capacity_fits = omega (arith, n.format.capacity_high);
      tiles_fit = omega (arith, n.room, n.format.capacity_high);
      number_fits = n.fits;
      count_fits = omega (arith, n.before, n.fits);
      sinks_fit = omega (arith, n.few);
    }

length-numbers : (h : Header) → length (numbers_of h) ≡ 32
unfolding number_bytes
length-numbers h = simp (length-append, length-u32_bytes, length-u64_bytes) refl

pub record SameNumbers (g h : Header) : Type 0 where
  pub side_is : g.side ≡ h.side
  pub capacity_is : g.capacity ≡ h.capacity
  pub tiles_are : g.tiles ≡ h.tiles
  pub number_is : g.number ≡ h.number
  pub count_is : g.count ≡ h.count
  pub sinks_are : g.sinks ≡ h.sinks

same_numbers : (g h : Header) → HasRoom g → HasRoom h → numbers_of g ≡ numbers_of h → SameNumbers g h
unfolding number_bytes
same_numbers g h p q same =
    let a = same_u32 g.side h.side _ _ p.side_fits q.side_fits same in
    let b = same_u32 g.capacity h.capacity _ _ p.capacity_fits q.capacity_fits a.1 in
    let c = same_u32 g.tiles h.tiles _ _ p.tiles_fit q.tiles_fit b.1 in
    let d = same_u64 g.number h.number _ _ p.number_fits q.number_fits c.1 in
    let e = same_u64 g.count h.count _ _ p.count_fits q.count_fits d.1 in
    let f = same_u32 g.sinks h.sinks _ _ p.sinks_fit q.sinks_fit e.1 in
    record { side_is = a.0; capacity_is = b.0; tiles_are = c.0; number_is = d.0; count_is = e.0; sinks_are = f.0 }

-- the parts of the bytes after the version
pub record Splits (body tail free rest entries sinks : List ℕ) (h : Header) : Type 0 where
  pub whole : length body ≡ 4084
  pub numbers : body ≡ numbers_of h ++ tail
  pub free_bytes : tail ≡ free ++ rest
  pub free_len : length free ≡ 20
  pub rooms : rest ≡ entries ++ sinks
  pub entries_len : length entries ≡ 3840

pub parts_at : (h : Header) (body tail free rest : List ℕ) → length body ≡ 4084 → body ≡ numbers_of h ++ tail → tail ≡ free ++ rest → length free ≡ 20 → Splits body tail free rest (take 3840 rest) (drop 3840 rest) h
parts_at h body tail free rest whole numbers free_bytes free_len =
    let len : length rest ≡ 4032 = omega (arith, ap length numbers, length-append (numbers_of h) tail, length-numbers h, ap length free_bytes, length-append free rest) in
    record { whole = whole; numbers = numbers; free_bytes = free_bytes; free_len = free_len; rooms = sym (take-append-drop 3840 rest); entries_len = omega (arith, length-take 3840 rest) }

-- The bytes are made of these parts, for this root.
pub record IsBodyOf (h : Header) (free entries sinks : List ℕ) (r : RootValue) : Type 0 where
  pub same : SameNumbers h (header_of r)
  pub zero : is_all_zero free ≡ true
  pub entries_are : entries ≡ padded 3840 (flat_map entry_bytes r.entries)
  pub sinks_are : sinks ≡ padded 192 (flat_map sink_bytes r.sinks)

length_room : (r : RootValue) → IsRoot r → length (padded 3840 (flat_map entry_bytes r.entries)) ≡ 3840
length_room r rules = length-padded 3840 (flat_map entry_bytes r.entries) (omega (arith, length_entries r.entries, rules.numbers.room, rules.numbers.format.capacity_high))

pub body_is : (h : Header) (body tail free rest entries sinks : List ℕ) (r : RootValue) → HasRoom h → Splits body tail free rest entries sinks h → IsRoot r → body ≡ body_bytes r → IsBodyOf h free entries sinks r
unfolding body_bytes
body_is h body tail free rest entries sinks r room parts rules spelled =
    let e = padded 3840 (flat_map entry_bytes r.entries) in
    let k = padded 192 (flat_map sink_bytes r.sinks) in
    let s = same_fronts (numbers_of h) (numbers_of (header_of r)) tail (zeros 20 ++ (e ++ k)) (length-numbers h ∙ sym (length-numbers (header_of r))) (sym parts.numbers ∙ spelled) in
    let t = same_fronts free (zeros 20) rest (e ++ k) (parts.free_len ∙ sym (length-zeros 20)) (sym parts.free_bytes ∙ s.1) in
    let u = same_fronts entries e sinks k (parts.entries_len ∙ sym (length_room r rules)) (sym parts.rooms ∙ t.1) in
    record { same = same_numbers h (header_of r) room (has_room r rules) s.0; zero = ap is_all_zero t.0 ∙ all_from_zeros 20; entries_are = u.0; sinks_are = u.1 }

-- If the numbers are a root's, they keep the rules of a root.
pub numbers_from : (h : Header) (r : RootValue) → SameNumbers h (header_of r) → IsRoot r → AreNumbers (format_in r.version h) h.tiles h.number h.count h.sinks
numbers_from h r same rules =
    let n = rules.numbers in
    record {
      format = record {
        side_low = omega (arith, same.side_is, n.format.side_low);
        side_high = omega (arith, same.side_is, n.format.side_high);
        capacity_low = omega (arith, same.capacity_is, n.format.capacity_low);
        capacity_high = omega (arith, same.capacity_is, n.format.capacity_high);
      };
      known = n.known;
      room = omega (arith, same.tiles_are, same.capacity_is, n.room);
      fits = omega (arith, same.number_is, n.fits);
      before = omega (arith, same.number_is, same.count_is, n.before);
      few = omega (arith, same.sinks_are, n.few);
    }

-- the root that these parts spell
abbrev pub root_from : Version → Header → List Point → List EntryValue → RootValue
root_from version h sinks entries = record { version = version; side = h.side; capacity = h.capacity; number = h.number; count = h.count; sinks = sinks; entries = entries }

pub body_from_parts : (version : Version) (h : Header) (body tail free rest front back : List ℕ) (points : List Point) (entries : List EntryValue)
    → AreNumbers (format_in version h) h.tiles h.number h.count h.sinks → Splits body tail free rest front back h → is_all_zero free ≡ true
    → length entries ≡ h.tiles → All IsEntry entries → AreInOrder entries → front ≡ padded 3840 (flat_map entry_bytes entries)
    → length points ≡ h.sinks → AreSinks h.side points → back ≡ padded 192 (flat_map sink_bytes points)
    → (r : RootValue) → r ≡ root_from version h points entries → IsRoot r × (r.version ≡ version) × (body ≡ body_bytes r)
unfolding body_bytes
body_from_parts version h body tail free rest front back points entries n parts zero tiles each order front_is count sinks back_is r is =
    let e = padded 3840 (flat_map entry_bytes entries) in
    let k = padded 192 (flat_map sink_bytes points) in
    let free_is : free ≡ zeros 20 = zeros_from_all free zero ∙ ap zeros parts.free_len in
    let rest_is : rest ≡ e ++ k = parts.rooms ∙ ap (λ (l : List ℕ). l ++ back) front_is ∙ ap (λ (l : List ℕ). e ++ l) back_is in
    let tail_is : tail ≡ zeros 20 ++ (e ++ k) = parts.free_bytes ∙ ap (λ (l : List ℕ). l ++ rest) free_is ∙ ap (λ (l : List ℕ). zeros 20 ++ l) rest_is in
    let spelled : body ≡ number_bytes h.side h.capacity (length entries) h.number h.count (length points) ++ (zeros 20 ++ (e ++ k)) =
    parts.numbers ∙ ap (λ (l : List ℕ). numbers_of h ++ l) tail_is
    ∙ ap (λ (t : ℕ). number_bytes h.side h.capacity t h.number h.count h.sinks ++ (zeros 20 ++ (e ++ k))) (sym tiles)
    ∙ ap (λ (t : ℕ). number_bytes h.side h.capacity (length entries) h.number h.count t ++ (zeros 20 ++ (e ++ k))) (sym count) in
    let rules : AreNumbers (format_in version h) (length entries) h.number h.count (length points) = record {
      format = n.format;
      known = n.known;
      room = omega (arith, tiles, n.room);
      fits = n.fits;
      before = n.before;
      few = omega (arith, count, n.few);
    } in
    rw is (record { numbers = rules; entries = each; in_order = order; sinks = sinks }, refl, spelled)

same_values : (a b : RootValue) → a.version ≡ b.version → SameNumbers (header_of a) (header_of b) → a.sinks ≡ b.sinks → a.entries ≡ b.entries → a ≡ b
same_values a b version same sinks entries =
    ap (λ (x : Version). let r : RootValue = record { version = x; side = a.side; capacity = a.capacity; number = a.number; count = a.count; sinks = a.sinks; entries = a.entries } in r) version
    ∙ ap (λ (x : ℕ). let r : RootValue = record { version = b.version; side = x; capacity = a.capacity; number = a.number; count = a.count; sinks = a.sinks; entries = a.entries } in r) same.side_is
    ∙ ap (λ (x : ℕ). let r : RootValue = record { version = b.version; side = b.side; capacity = x; number = a.number; count = a.count; sinks = a.sinks; entries = a.entries } in r) same.capacity_is
    ∙ ap (λ (x : ℕ). let r : RootValue = record { version = b.version; side = b.side; capacity = b.capacity; number = x; count = a.count; sinks = a.sinks; entries = a.entries } in r) same.number_is
    ∙ ap (λ (x : ℕ). let r : RootValue = record { version = b.version; side = b.side; capacity = b.capacity; number = b.number; count = x; sinks = a.sinks; entries = a.entries } in r) same.count_is
    ∙ ap (λ (x : List Point). let r : RootValue = record { version = b.version; side = b.side; capacity = b.capacity; number = b.number; count = b.count; sinks = x; entries = a.entries } in r) sinks
    ∙ ap (λ (x : List EntryValue). let r : RootValue = record { version = b.version; side = b.side; capacity = b.capacity; number = b.number; count = b.count; sinks = b.sinks; entries = x } in r) entries

-- bytes spell one root of a version only
pub same_bodies : (a b : RootValue) → IsRoot a → IsRoot b → a.version ≡ b.version → body_bytes a ≡ body_bytes b → a ≡ b
unfolding body_bytes
same_bodies a b p q version same =
    let e = padded 3840 (flat_map entry_bytes a.entries) in
    let k = padded 192 (flat_map sink_bytes a.sinks) in
    let tail = zeros 20 ++ (e ++ k) in
    let body = numbers_of (header_of a) ++ tail in
    let len : length body ≡ 4084 = omega (arith, length-append (numbers_of (header_of a)) tail, length-numbers (header_of a), length-append (zeros 20) (e ++ k), length-zeros 20, length-append e k, length_room a p, length-padded 192 (flat_map sink_bytes a.sinks) (omega (arith, length_sinks a.sinks, p.numbers.few))) in
    let parts : Splits body tail (zeros 20) (e ++ k) e k (header_of a) = record { whole = len; numbers = refl; free_bytes = refl; free_len = length-zeros 20; rooms = refl; entries_len = length_room a p } in
    let is = body_is (header_of a) body tail (zeros 20) (e ++ k) e k b (has_room a p) parts q same in
    let entries = same_padded entry_bytes IsEntry one_entry 3840 a.entries b.entries p.entries q.entries is.same.tiles_are is.entries_are in
    let held : All (IsHeld b.side) a.sinks = subst (λ (n : ℕ). All (IsHeld n) a.sinks) is.same.side_is p.sinks.held in
    let sinks = same_padded sink_bytes (IsHeld b.side) (one_sink b.side (side_known (format_of b) q.numbers.format)) 192 a.sinks b.sinks held q.sinks.held is.same.sinks_are is.sinks_are in
    same_values a b version is.same sinks entries

pub length_rooms : (r : RootValue) → IsRoot r → length (padded 3840 (flat_map entry_bytes r.entries) ++ padded 192 (flat_map sink_bytes r.sinks)) ≡ 4032
length_rooms r rules = omega (arith, length-append (padded 3840 (flat_map entry_bytes r.entries)) (padded 192 (flat_map sink_bytes r.sinks)), length_room r rules, length-padded 192 (flat_map sink_bytes r.sinks) (omega (arith, length_sinks r.sinks, rules.numbers.few)))
