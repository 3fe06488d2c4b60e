use Rattle.page_codec.proofs.EntryFields.{same_entry}
use Rattle.page_codec.proofs.RecordPages.{same_records}
use Rattle.page_codec.proofs.RootBytes.{same_roots, length-root_bytes}
use Rattle.page_codec.proofs.law.one_value_a_spelling.Goals as goal

pub returns-clause-entries : goal.returns-clause-entries
returns-clause-entries c = same_entry

pub returns-clause-records : goal.returns-clause-records
returns-clause-records c = same_records

pub returns-clause-roots : goal.returns-clause-roots
returns-clause-roots c = same_roots

pub returns-clause-whole : goal.returns-clause-whole
returns-clause-whole c = length-root_bytes
