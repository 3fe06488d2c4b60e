-- The page numbers of a record: bytes spell one record only.
use Rattle.std.proofs.Common.{◌≡◌, ℕ, ◌^◌, ◌<◌, List, ◌∙◌, sym}
use Rattle.page_codec.specs.Numbers.{u32_bytes}
use Rattle.page_codec.specs.Records.{IsRecord, record_bytes}
use Rattle.page_codec.proofs.Fields.{same_u32}
use Rattle.page_codec.proofs.Items.{SpellsOne}
use Rattle.page_codec.proofs.Ordered.{same_padded}

pub one_number : SpellsOne u32_bytes (λ p. p < 2 ^ 32)
one_number = record { same = λ a b x y p q e. same_u32 a b x y p q e }

pub same_records : (count : ℕ) (a b : List ℕ) → IsRecord count a → IsRecord count b → record_bytes a ≡ record_bytes b → a ≡ b
unfolding record_bytes
same_records count a b p q same = same_padded u32_bytes (λ p. p < 2 ^ 32) one_number 4096 a b p.each q.each (p.len ∙ sym q.len) same
