use Rattle.std.proofs.Common.{◌≡◌, ◌^◌, ◌<◌, ℕ, true, sym, ◌∙◌, arith}
use Rattle.page_codec.specs.Numbers.{is_all_zero, u32_bytes}
use Rattle.page_codec.specs.Records.{record_bytes}
use Rattle.page_codec.proofs.RecordPages.{one_number}
use Rattle.page_codec.proofs.Ordered.{padded_are, padded_from_parts}
use Rattle.page_codec.proofs.record.read_pages.Goals as goal

pub returns-then-not-is_zero-clause-only : goal.returns-then-not-is_zero-clause-only
unfolding record_bytes
returns-then-not-is_zero-clause-only c = λ pages are spelled.
    let found = c.split_pages-pages.ensures in
    let s = padded_are u32_bytes (λ (p : ℕ). p < 2 ^ 32) one_number 4096 _ _ _ pages found.parts found.pages.each are.each (found.pages.len ∙ sym are.len) spelled in
    let zero = s.1 in
    cc

pub returns-clause-found : goal.returns-clause-found
unfolding record_bytes
returns-clause-found c =
    let found = c.split_pages-pages.ensures in
    let zero : is_all_zero c.split_pages-pages.result.1.now ≡ true = cc in
    (found.pages, padded_from_parts 4096 _ _ _ found.parts zero (omega arith))

pub returns-clause-only : goal.returns-clause-only
unfolding record_bytes
returns-clause-only c = λ pages are spelled.
    let found = c.split_pages-pages.ensures in
    (padded_are u32_bytes (λ (p : ℕ). p < 2 ^ 32) one_number 4096 _ _ _ pages found.parts found.pages.each are.each (found.pages.len ∙ sym are.len) spelled).0
