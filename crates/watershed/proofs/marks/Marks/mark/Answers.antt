use Rattle.watershed.proofs.Prelude.{Marks, arith, inl, inr, refl, sym, ⊎_elim, ◌/◌}
use Rattle.watershed.proofs.Marked.{marked_more, marked_alike}
use Rattle.watershed.proofs.marks.Marks.mark.Goals as goal

pub overflow_mul-word : goal.overflow_mul-word
overflow_mul-word c =
    let mid = c.place.new.self in
    let told = c.in_ok-place.ensures in
    let low = (told.indexed.listed (c.rank-rank.result / 4096) c.in_ok-place.place told.there).0 in
    record { fits = omega (arith, low, told.indexed.whole, mid.words.ok.0, c.len-whole.ensures, c.len-whole.type_inv) }

pub overflow_add-word : goal.overflow_add-word
overflow_add-word c =
    let mid = c.place.new.self in
    let told = c.in_ok-place.ensures in
    let low = (told.indexed.listed (c.rank-rank.result / 4096) c.in_ok-place.place told.there).0 in
    record { fits = omega (arith, low, told.indexed.whole, mid.words.ok.0, c.len-whole.ensures, c.len-whole.type_inv) }

pub set_bit-requires-clause-k : goal.set_bit-requires-clause-k
set_bit-requires-clause-k c =
    let told = c.in_ok-place.ensures in
    let low = (told.indexed.listed (c.rank-rank.result / 4096) c.in_ok-place.place told.there).0 in
    omega (arith, low, told.indexed.whole)

pub returns-clause-marked : goal.returns-clause-marked
returns-clause-marked c p =
    let old = c.args.self.now in
    let mid = c.place.new.self in
    let new : Marks = record { places = mid.places; numbers = mid.numbers; words = c.set_bit.new.words; hints = mid.hints } in
    let told = c.in_ok-place.ensures in
    let set = c.set_bit.ensures in
    let more = marked_more mid new c.args.point c.rank-rank.result c.rank-rank.ensures told.indexed c.in_ok-place.place told.there (λ _. refl) set.set set.others set.apart p in (
      (λ marked. ⊎_elim (λ before. inl (marked_alike mid old told.same p before)) (λ this. inr this) (more.0 marked)),
      (λ found. more.1 (⊎_elim (λ before. inl (marked_alike old mid (λ n. sym (told.same n)) p before)) (λ this. inr this) found)),
    )
