-- The bytes of a text, as contracts see them (defined by this product).
use Rattle.std.specs.Prelude.{ℕ, List, [], flat_map}
use Rattle.lines.specs.declared.lists.Elements.{Elements}
use Rattle.lines.specs.declared.lists.Elements.TheVariants.{None, Names, Points, Runs}
use Rattle.lines.specs.declared.text.Body.{Body}
use Rattle.lines.specs.declared.text.Body.TheVariants as body
use Rattle.lines.specs.Replies.{line_of, spaced_names, point_line, run_line}

-- the text of a list's remaining elements
abbrev pub text_left : Elements → List ℕ
text_left None = []
text_left (Names corners) = line_of (spaced_names corners.now)
text_left (Points points) = flat_map point_line points.now
text_left (Runs runs) = flat_map run_line runs.now

-- the text after a reply's head
abbrev pub body_text : Body → List ℕ
body_text body.None = []
body_text (body.Bytes bytes) = bytes.items
body_text (body.Names corners) = line_of (spaced_names corners.items)
body_text (body.Points points) = flat_map point_line points.items
body_text (body.Runs runs) = flat_map run_line runs.items
