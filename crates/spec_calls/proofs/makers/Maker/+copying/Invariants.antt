use Rattle.std.proofs.Common.{◌+◌, ◌*◌}
use Rattle.spec_calls.proofs.makers.Maker.+copying.Given as goal

abbrev pub decreases-copy_call : goal.decreases-copy_call
decreases-copy_call l = 4 * l.fuel

abbrev pub decreases-copy_site : goal.decreases-copy_site
decreases-copy_site l = 4 * l.fuel + 1

abbrev pub decreases-copy_sites : goal.decreases-copy_sites
decreases-copy_sites l = 4 * l.fuel + 2

abbrev pub decreases-look_through : goal.decreases-look_through
decreases-look_through l = 4 * l.fuel + 3
