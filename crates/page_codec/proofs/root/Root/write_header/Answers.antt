use Rattle.page_codec.proofs.Prelude.{ℕ, ap, number_of, ◌++◌, ◌∙◌}
use Rattle.page_codec.specs.Numbers.{u32_bytes, zeros}
use Rattle.page_codec.specs.Roots.{magic}
use Rattle.page_codec.proofs.RootBytes.{header_from_puts}
use Rattle.page_codec.proofs.root.Root.write_header.Goals as goal

pub returns-clause-bytes : goal.returns-clause-bytes
unfolding magic zeros
returns-clause-bytes c =
    let version = c.put_u32.ensures.bytes ∙ ap (λ (n : ℕ). c.put.new.self ++ u32_bytes n) (c.number.ensures ∙ ap number_of c.version.ensures) in
    let side = c.put_u32-2.ensures.bytes ∙ ap (λ (n : ℕ). c.put_u32.new.self ++ u32_bytes n) (c.samples.ensures.value ∙ c.side.ensures.value) in
    let capacity = c.put_u32-3.ensures.bytes ∙ ap (λ (n : ℕ). c.put_u32-2.new.self ++ u32_bytes n) c.capacity.ensures.value in
    let tiles = c.put_u32-4.ensures.bytes ∙ ap (λ (n : ℕ). c.put_u32-3.new.self ++ u32_bytes n) c.len.ensures.value in
    let sinks = c.put_u32-5.ensures.bytes ∙ ap (λ (n : ℕ). c.put_u64-2.new.self ++ u32_bytes n) c.len-2.ensures.value in
    rw (← c.self.view_is) (header_from_puts _ _ _ _ _ _ _ _ _ _ c.self.inside.format _ c.self.inside.number c.self.inside.count _ c.new-writer.ensures.bytes c.put.ensures.bytes version side capacity tiles c.put_u64.ensures.bytes c.put_u64-2.ensures.bytes sinks c.put-2.ensures.bytes)
