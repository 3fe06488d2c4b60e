use Rattle.server.proofs.disks.make_store.Goals as goal

pub returns : goal.returns
returns g c = (c.format-formatted.result, record { formats = c.format-formatted.ensures.formats; formatted = c.format-formatted.ensures.formatted }, c.end_format.ensures)
