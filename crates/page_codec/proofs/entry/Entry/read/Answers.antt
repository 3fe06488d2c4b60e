use Rattle.page_codec.specs.declared.damaged.Damaged.TheVariants.{Rule}
use Rattle.page_codec.proofs.EntryFields.{found_spelled}
use Rattle.page_codec.proofs.entry.Entry.read.Goals as goal

pub returns-clause-only : goal.returns-clause-only
returns-clause-only c = λ e entry same. rw c.ok_or.ensures.value (found_spelled c.parse.result c.args.bytes.now Rule c.parse.ensures.found c.parse.ensures.none e entry same)
