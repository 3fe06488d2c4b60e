-- The text of an answer (defined by this product).
use Rattle.std.specs.Prelude.{◌≡◌, ◌⊎◌, ℕ, Bool, true, false, IsTrue, List, ◌++◌, length, codes, decimal, Some, None}
use Rattle.std.specs.Fmt.{signed_decimal}
use Rattle.lattice.specs.declared.height.Height.TheVariants as height
use Rattle.lattice.specs.declared.refusal.Refusal.TheVariants as refusal
use Rattle.hgt.specs.Bytes.{hgt_bytes}
use Rattle.hgt.specs.Names.{name_bytes}
use Rattle.engine.specs.declared.event.Reply.{Reply}
use Rattle.engine.specs.declared.event.Reply.TheVariants as reply
use Rattle.lines.specs.Replies.{count_bytes, ok_line, done_text, info_line, names_line, path_text, runs_text, refusal_text}

-- `OK`, the number of bytes, and the bytes
abbrev pub bytes_text : List ℕ → List ℕ
bytes_text bytes = ok_line (decimal (length bytes)) ++ bytes

-- the text of a reply: for a height metres or `void`, and outside the mosaic a refusal; for a step the tile's name or
-- `none`
abbrev pub text_of : Reply → List ℕ
text_of (reply.Done count) = ok_line (decimal count)
text_of (reply.Elevation height.Outside) = refusal_text refusal.Outside
text_of (reply.Elevation height.Void) = ok_line (codes "void")
text_of (reply.Elevation (height.At metres)) = ok_line (signed_decimal metres)
text_of (reply.Fill level) = ok_line (signed_decimal level)
text_of (reply.Direction code) = ok_line (decimal code)
text_of (reply.Trace path) = path_text path.items
text_of (reply.Watershed runs) = runs_text runs.items
text_of (reply.Export bytes) = bytes_text bytes.items
text_of (reply.Levels levels) = bytes_text (hgt_bytes levels.items)
text_of (reply.Directions codes) = bytes_text codes.items
text_of (reply.Upstream counts) = bytes_text (count_bytes counts.items)
text_of (reply.Tiles corners) = names_line corners.items
text_of (reply.Sinks points) = path_text points.items
text_of (reply.Stepped (Some c)) = ok_line (name_bytes c)
text_of (reply.Stepped None) = ok_line (codes "none")
text_of (reply.Count count) = ok_line (decimal count)
text_of (reply.Info info) = info_line info
text_of reply.Reopened = done_text
text_of (reply.Refused r) = refusal_text r

-- whether making the reply's text needs memory
abbrev pub takes_memory : Reply → Bool
takes_memory (reply.Levels levels) = true
takes_memory (reply.Upstream counts) = true
takes_memory answer = false

-- The text of a reply, or NoMemory if there is no memory for the text.
abbrev pub Tells : Reply → List ℕ → Type 0
Tells answer text = (text ≡ text_of answer) ⊎ (IsTrue (takes_memory answer) × (text ≡ refusal_text refusal.NoMemory))
