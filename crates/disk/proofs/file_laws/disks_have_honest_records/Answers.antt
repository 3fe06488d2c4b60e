use Rattle.disk.proofs.ToldHonest.{true_record}
use Rattle.disk.proofs.file_laws.disks_have_honest_records.Goals as goal

pub returns : goal.returns
returns g c at calls honest told = true_record g.D.Disk g.met.D.Disk.seen_may g.met.D.Disk.only_now at honest calls told
