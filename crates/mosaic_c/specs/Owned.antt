-- What a handle owns on the heap.
use Rattle.std.specs.Prelude.{Option, None, Some}
use Rattle.std.specs.Coded.{Coded, coded_option}
use base.Fml.{Fml, ftrue}
use denote.RawPtr.{Ptr}
use Rattle.std_heap.specs.contracts.GlobalAllocator.TheImpl.{ghosts}
use Rattle.std_alloc.specs.Box.Ownership.{box_owns}
use Rattle.mosaic_c.specs.declared.session.Session.{Session}
use Rattle.core.specs.contracts.mem.manually_drop.ManuallyDrop as kept
use Rattle.mosaic_c.specs.contracts.session.Session.{the_row}

abbrev pub kept_coded : Coded (Option Session)
kept_coded = coded_option the_row.coded

-- a session at `p` with the right to free its block, or nothing
abbrev pub owned : Ptr → Option Session → Fml
owned p (Some x) = box_owns (ghosts.dealloc_token (record { memory = record { seal = tt } })) (kept.the_row the_row) p (record { value = x })
owned p None = ftrue
