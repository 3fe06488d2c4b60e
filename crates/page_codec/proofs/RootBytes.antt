-- The bytes of a root: magic, version, and the bytes after them.
use Rattle.std.proofs.Common.{◌≡◌, ℕ, ◌-◌, ◌^◌, ◌<◌, List, [], ◌++◌, length, take, drop, Option, Some, None, Result, Ok, Err, refl, sym, ap, ◌∙◌, arith, append_assoc}
use Rattle.std.specs.Prelude.{IfOk, IfSome, IfNone, IsErrOf, ◌↔◌, ◌≢◌}
use Rattle.page_codec.proofs.Prelude.{Damaged, One, Two, Version, drop-append_seam, entry_bytes, flat_map, ok_or, take-append_seam}
use Rattle.std.proofs.lemmas.List.{append-nil, length-append, append_cancel_left}
use Rattle.page_codec.specs.Numbers.{u32_bytes, u64_bytes, zeros, padded}
use Rattle.page_codec.specs.Formats.{Format, IsKnown, number_of}
use Rattle.page_codec.specs.Sinks.{sink_bytes}
use Rattle.page_codec.specs.Roots.{RootValue, format_of, IsRoot, magic, header_bytes, root_bytes, HasMagic, HasVersion, HasKnownVersion}
use Rattle.page_codec.specs.Headers.{number_bytes, body_bytes}
use Rattle.page_codec.specs.declared.damaged.Damaged.TheVariants as reason
use Rattle.page_codec.proofs.Fields.{same_u32, length-u32_bytes, length-u64_bytes, length-zeros}
use Rattle.page_codec.proofs.Bodies.{same_bodies, length_rooms}

length-magic : length magic ≡ 8
unfolding magic
length-magic = refl

-- the header's fields in two parts
header_parts : (f : Format) (tiles number count sinks : ℕ) → header_bytes f tiles number count sinks ≡ magic ++ (u32_bytes (number_of f.version) ++ (number_bytes f.side f.capacity tiles number count sinks ++ zeros 20))
unfolding header_bytes number_bytes
header_parts f tiles number count sinks = simp (append_assoc, append-nil) refl

length-header : (f : Format) (tiles number count sinks : ℕ) → length (header_bytes f tiles number count sinks) ≡ 64
unfolding header_bytes
length-header f tiles number count sinks = simp (length-append, length-magic, length-u32_bytes, length-u64_bytes, length-zeros) refl

pub root_parts : (r : RootValue) → root_bytes r ≡ magic ++ (u32_bytes (number_of r.version) ++ body_bytes r)
unfolding root_bytes body_bytes
root_parts r =
    let rooms = padded 3840 (flat_map entry_bytes r.entries) ++ padded 192 (flat_map sink_bytes r.sinks) in
    let numbers = number_bytes r.side r.capacity (length r.entries) r.number r.count (length r.sinks) in
    let version = u32_bytes (number_of r.version) in
    let grouped : (magic ++ (version ++ (numbers ++ zeros 20))) ++ rooms ≡ magic ++ (version ++ (numbers ++ (zeros 20 ++ rooms))) = simp append_assoc refl in
    ap (λ (h : List ℕ). h ++ rooms) (header_parts (format_of r) (length r.entries) r.number r.count (length r.sinks)) ∙ grouped

-- bytes that begin with the magic
has_magic : (bytes rest : List ℕ) → bytes ≡ magic ++ rest → HasMagic bytes
has_magic bytes rest parts = ap (take 8) parts ∙ ap (λ (n : ℕ). take n (magic ++ rest)) (sym length-magic) ∙ take-append_seam magic rest

behind_magic : (bytes rest : List ℕ) → bytes ≡ magic ++ rest → drop 8 bytes ≡ rest
behind_magic bytes rest parts = ap (drop 8) parts ∙ ap (λ (n : ℕ). drop n (magic ++ rest)) (sym length-magic) ∙ drop-append_seam magic rest

first_number : (n : ℕ) (body : List ℕ) → take 4 (u32_bytes n ++ body) ≡ u32_bytes n
first_number n body = ap (λ (k : ℕ). take k (u32_bytes n ++ body)) (sym (length-u32_bytes n)) ∙ take-append_seam (u32_bytes n) body

has_version : (bytes rest body : List ℕ) (version : Version) → bytes ≡ magic ++ rest → rest ≡ u32_bytes (number_of version) ++ body → HasVersion (number_of version) bytes
has_version bytes rest body version parts spelled = ap (take 4) (behind_magic bytes rest parts ∙ spelled) ∙ first_number (number_of version) body

-- A root's bytes have the magic and a known version.
pub root_has_magic : (bytes : List ℕ) (r : RootValue) → bytes ≡ root_bytes r → HasMagic bytes
root_has_magic bytes r spelled = has_magic bytes (u32_bytes (number_of r.version) ++ body_bytes r) (spelled ∙ root_parts r)

pub root_has_version : (bytes : List ℕ) (r : RootValue) → IsRoot r → bytes ≡ root_bytes r → HasKnownVersion bytes
root_has_version bytes r rules spelled = (r.version, (rules.numbers.known, has_version bytes (u32_bytes (number_of r.version) ++ body_bytes r) (body_bytes r) r.version (spelled ∙ root_parts r) refl))

number_fits : (version : Version) → number_of version < 2 ^ 32
number_fits One = omega arith
number_fits Two = omega arith

pub same_version : (a b : Version) → number_of a ≡ number_of b → a ≡ b
same_version One One same = refl
same_version One Two same = absurd (omega arith)
same_version Two One same = absurd (omega arith)
same_version Two Two same = refl

-- Numbers with equal bytes are equal.
pub same_number : (m n : ℕ) → m < 2 ^ 32 → n < 2 ^ 32 → u32_bytes m ≡ u32_bytes n → m ≡ n
same_number m n p q same = (same_u32 m n [] [] p q (ap (λ (l : List ℕ). l ++ []) same)).0

-- The number at the front is that of no version.
pub unknown_version : (rest body : List ℕ) (n : ℕ) (version : Version) → n < 2 ^ 32 → rest ≡ u32_bytes n ++ body → n ≢ number_of version → take 4 rest ≢ u32_bytes (number_of version)
unknown_version rest body n version fits parts never same =
    never (same_number n (number_of version) fits (number_fits version) (sym (ap (take 4) parts ∙ first_number n body) ∙ same))

-- what `read` answers for these bytes
pub record IsJudged (bytes : List ℕ) (result : Result RootValue Damaged) : Type 0 where
  pub found : IfOk result (λ r. IsRoot r × (bytes ≡ root_bytes r))
  pub only : (r : RootValue) → IsRoot r → bytes ≡ root_bytes r → result ≡ Ok r
  pub no_magic : IsErrOf result reason.Magic ↔ ¬ HasMagic bytes
  pub no_version : IsErrOf result reason.Version ↔ (HasMagic bytes × ¬ HasKnownVersion bytes)
  pub no_root : IsErrOf result reason.Rule ↔ (HasMagic bytes × HasKnownVersion bytes × ((r : RootValue) → IsRoot r → bytes ≢ root_bytes r))

pub without_version : (bytes rest : List ℕ) → bytes ≡ magic ++ rest → ((version : Version) → IsKnown version → take 4 rest ≢ u32_bytes (number_of version)) → IsJudged bytes (Err reason.Version)
without_version bytes rest parts unknown =
    let there = has_magic bytes rest parts in
    let without : ¬ HasKnownVersion bytes = λ has. unknown has.0 has.1.0 (sym (ap (take 4) (behind_magic bytes rest parts)) ∙ has.1.1) in
    record {
      found = tt;
      only = λ r rules spelled. absurd (without (root_has_version bytes r rules spelled));
      no_magic = (λ e. cc, λ never. absurd (never there));
      no_version = (λ _. (there, without), λ _. refl);
      no_root = (λ e. cc, λ said. absurd (without said.1));
    }

-- These bytes have the magic, this version, and this body.
pub record HasBody (version : Version) (bytes rest body : List ℕ) : Type 0 where
  pub known : IsKnown version
  pub front : bytes ≡ magic ++ rest
  pub next : rest ≡ u32_bytes (number_of version) ++ body

whole : (version : Version) (bytes rest body : List ℕ) → HasBody version bytes rest body → bytes ≡ magic ++ (u32_bytes (number_of version) ++ body)
whole version bytes rest body has = has.front ∙ ap (λ (l : List ℕ). magic ++ l) has.next

-- A root that these bytes spell has this version and this body.
body_of : (version : Version) (bytes rest body : List ℕ) (r : RootValue) → HasBody version bytes rest body → bytes ≡ root_bytes r → (version ≡ r.version) × (body ≡ body_bytes r)
body_of version bytes rest body r has spelled =
    let behind : u32_bytes (number_of version) ++ body ≡ u32_bytes (number_of r.version) ++ body_bytes r =
    append_cancel_left magic (u32_bytes (number_of version) ++ body) (u32_bytes (number_of r.version) ++ body_bytes r) (sym (whole version bytes rest body has) ∙ spelled ∙ root_parts r) in
    let s = same_u32 (number_of version) (number_of r.version) body (body_bytes r) (number_fits version) (number_fits r.version) behind in
    (same_version version r.version s.0, s.1)

pub judged : (version : Version) (bytes rest body : List ℕ) (found : Option RootValue) → HasBody version bytes rest body
    → IfSome found (λ r. IsRoot r × (r.version ≡ version) × (body ≡ body_bytes r))
    → IfNone found ((r : RootValue) → IsRoot r → r.version ≡ version → body ≡ body_bytes r → ⊥)
    → IsJudged bytes (ok_or found reason.Rule)
judged version bytes rest body (Some x) has found none =
    let there = has_magic bytes rest has.front in
    let known : HasKnownVersion bytes = (version, (has.known, has_version bytes rest body version has.front has.next)) in
    let spelled : bytes ≡ root_bytes x = whole version bytes rest body has ∙ ap (λ (v : Version). magic ++ (u32_bytes (number_of v) ++ body)) (sym found.1) ∙ ap (λ (l : List ℕ). magic ++ (u32_bytes (number_of x.version) ++ l)) found.2 ∙ sym (root_parts x) in
    record {
      found = (found.0, spelled);
      only = λ r rules same.
          let b = body_of version bytes rest body r has same in
          ap (λ (y : RootValue). let result : Result RootValue Damaged = Ok y in result) (same_bodies x r found.0 rules (found.1 ∙ b.0) (sym found.2 ∙ b.1));
      no_magic = (λ e. cc, λ never. absurd (never there));
      no_version = (λ e. cc, λ said. absurd (said.1 known));
      no_root = (λ e. cc, λ said. absurd (said.2 x found.0 spelled));
    }
judged version bytes rest body None has found none =
    let there = has_magic bytes rest has.front in
    let known : HasKnownVersion bytes = (version, (has.known, has_version bytes rest body version has.front has.next)) in
    let never : (r : RootValue) → IsRoot r → bytes ≡ root_bytes r → ⊥ = λ r rules same. let b = body_of version bytes rest body r has same in none r rules (sym b.0) b.1 in
    record {
      found = tt;
      only = λ r rules same. absurd (never r rules same);
      no_magic = (λ e. cc, λ without. absurd (without there));
      no_version = (λ e. cc, λ said. absurd (said.1 known));
      no_root = (λ _. (there, known, never), λ _. refl);
    }

-- a header written field by field
pub header_from_puts : (w0 w1 w2 w3 w4 w5 w6 w7 w8 w9 : List ℕ) (f : Format) (tiles number count sinks : ℕ)
    → w0 ≡ [] → w1 ≡ w0 ++ magic → w2 ≡ w1 ++ u32_bytes (number_of f.version) → w3 ≡ w2 ++ u32_bytes f.side → w4 ≡ w3 ++ u32_bytes f.capacity → w5 ≡ w4 ++ u32_bytes tiles
    → w6 ≡ w5 ++ u64_bytes number → w7 ≡ w6 ++ u64_bytes count → w8 ≡ w7 ++ u32_bytes sinks → w9 ≡ w8 ++ zeros 20 → w9 ≡ header_bytes f tiles number count sinks
unfolding header_bytes
header_from_puts w0 w1 w2 w3 w4 w5 w6 w7 w8 w9 f tiles number count sinks e0 e1 e2 e3 e4 e5 e6 e7 e8 e9 =
    let p1 : w1 ≡ magic = e1 ∙ ap (λ (l : List ℕ). l ++ magic) e0 in
    let p2 = e2 ∙ ap (λ (l : List ℕ). l ++ u32_bytes (number_of f.version)) p1 in
    let p3 = e3 ∙ ap (λ (l : List ℕ). l ++ u32_bytes f.side) p2 in
    let p4 = e4 ∙ ap (λ (l : List ℕ). l ++ u32_bytes f.capacity) p3 in
    let p5 = e5 ∙ ap (λ (l : List ℕ). l ++ u32_bytes tiles) p4 in
    let p6 = e6 ∙ ap (λ (l : List ℕ). l ++ u64_bytes number) p5 in
    let p7 = e7 ∙ ap (λ (l : List ℕ). l ++ u64_bytes count) p6 in
    let p8 = e8 ∙ ap (λ (l : List ℕ). l ++ u32_bytes sinks) p7 in
    e9 ∙ ap (λ (l : List ℕ). l ++ zeros 20) p8 ∙ simp (append_assoc, append-nil) refl

-- Bytes spell one root only, and a root fills its page.
pub same_roots : (a b : RootValue) → IsRoot a → IsRoot b → root_bytes a ≡ root_bytes b → a ≡ b
same_roots a b p q same =
    let rest = u32_bytes (number_of a.version) ++ body_bytes a in
    let has : HasBody a.version (root_bytes a) rest (body_bytes a) = record { known = p.numbers.known; front = root_parts a; next = refl } in
    let s = body_of a.version (root_bytes a) rest (body_bytes a) b has same in
    same_bodies a b p q s.0 s.1

pub length-root_bytes : (r : RootValue) → IsRoot r → length (root_bytes r) ≡ 4096
unfolding root_bytes
length-root_bytes r rules =
    let header = header_bytes (format_of r) (length r.entries) r.number r.count (length r.sinks) in
    let rooms = padded 3840 (flat_map entry_bytes r.entries) ++ padded 192 (flat_map sink_bytes r.sinks) in
    omega (arith, length-append header rooms, length-header (format_of r) (length r.entries) r.number r.count (length r.sinks), length_rooms r rules)

-- The header, the entries and the sinks, written one after another, fill the page.
pub root_from_puts : (r : RootValue) (w0 w1 w2 : List ℕ) → IsRoot r → w0 ≡ header_bytes (format_of r) (length r.entries) r.number r.count (length r.sinks)
    → w1 ≡ w0 ++ padded 3840 (flat_map entry_bytes r.entries) → w2 ≡ w1 ++ padded 192 (flat_map sink_bytes r.sinks) → padded 4096 w2 ≡ root_bytes r
unfolding root_bytes zeros
root_from_puts r w0 w1 w2 rules e0 e1 e2 =
    let e = padded 3840 (flat_map entry_bytes r.entries) in
    let k = padded 192 (flat_map sink_bytes r.sinks) in
    let is : w2 ≡ root_bytes r = e2 ∙ ap (λ (l : List ℕ). l ++ k) (e1 ∙ ap (λ (l : List ℕ). l ++ e) e0) ∙ append_assoc (header_bytes (format_of r) (length r.entries) r.number r.count (length r.sinks)) e k in
    let full : 4096 - length w2 ≡ 0 = omega (arith, ap length is, length-root_bytes r rules) in
    ap (λ (n : ℕ). w2 ++ zeros n) full ∙ append-nil w2 ∙ is
