use Rattle.page_codec.proofs.Prelude.{EntryValue, List, Point, RootValue, ℕ, ap, entry_bytes, flat_map, padded, ◌++◌, ◌∙◌}
use Rattle.page_codec.specs.Sinks.{sink_bytes}
use Rattle.page_codec.proofs.RootBytes.{root_from_puts}
use Rattle.page_codec.proofs.root.Root.write.Goals as goal

pub returns : goal.returns
returns c =
    let entries = c.write_entries.ensures ∙ ap (λ (l : List EntryValue). padded 3840 (flat_map entry_bytes l)) (c.as_slice.ensures.value ∙ ap (λ (r : RootValue). r.entries) c.self.view_is) in
    let sinks = c.write_sinks.ensures ∙ ap (λ (l : List Point). padded 192 (flat_map sink_bytes l)) (c.as_slice-2.ensures.value ∙ ap (λ (r : RootValue). r.sinks) c.self.view_is) in
    c.finish.ensures ∙ root_from_puts c.args.self.now _ _ _ c.write_header-writer.ensures.rules c.write_header-writer.ensures.bytes
    (c.put.ensures.bytes ∙ ap (λ (l : List ℕ). c.write_header-writer.result ++ l) entries) (c.put-2.ensures.bytes ∙ ap (λ (l : List ℕ). c.put.new.self ++ l) sinks)
