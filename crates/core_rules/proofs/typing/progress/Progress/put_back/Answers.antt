use Rattle.std.proofs.Common.{refl}
use Rattle.core_rules.proofs.Bindings.{put_back}
use Rattle.core_rules.proofs.typing.progress.Progress.put_back.Goals as goal

pub returns : goal.returns
returns c = put_back c.args.self.now _ c.args.name c.args.var refl c.in_ok-insert.ensures.has refl refl
