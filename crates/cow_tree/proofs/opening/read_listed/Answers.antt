use Rattle.cow_tree.proofs.Prelude.{Ok, inl}
use Rattle.cow_tree.proofs.ReadOnly.{HasRead, read_as, read_well}
use Rattle.cow_tree.proofs.opening.read_listed.Goals as goal
use Rattle.cow_tree.proofs.opening.read_listed.Goals.{In_ok-read}

-- The page was read, whether its bytes are valid or not.
has_read : (g : _) (c : In_ok-read g) → HasRead g.D.Disk c.args.roots.now c.read.new.self
has_read g c = record {
  size = c.read.ensures.size;
  writes = c.read.ensures.writes;
  later = c.read.ensures.cause.later;
  device = λ is. cc;
  root = c.read.ensures.root;
  begun = c.read.ensures.begun;
  works = inl c.in_ok-read.ensures.not_failed;
  honest = λ h. (c.read.ensures.nothing h).honest;
  seen = c.read.ensures.seen;
  nothing = c.read.ensures.nothing;
  ready = λ h r w. c.in_ok-read.ensures.ready h r;
}

pub returns-in-Ok-clause-reads : goal.returns-in-Ok-clause-reads
returns-in-Ok-clause-reads g c = read_well g.D.Disk c.args.roots.now c.read.new.self tt _ (has_read g (goal.at.returns-in-Ok-clause-reads g c).In_ok-read)

pub returns-in-Err-clause-reads : goal.returns-in-Err-clause-reads
returns-in-Err-clause-reads g c =
    read_as g.D.Disk c.args.roots.now c.read.new.self (Ok tt) _ (has_read g (goal.at.returns-in-Err-clause-reads g c).In_ok-read) (inl c.in_ok-read.ensures.not_failed) (λ is. cc)
