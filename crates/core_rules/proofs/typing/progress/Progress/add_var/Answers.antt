use Rattle.std.proofs.Common.{◌≡◌, length, ap, refl, rules}
use Rattle.core_rules.proofs.Bindings.{bound_next}
use Rattle.core_rules.proofs.typing.progress.Progress.add_var.Goals as goal

pub returns-clause-binds : goal.returns-clause-binds
returns-clause-binds c =
    let next : c.len.result ≡ length c.args.self.now.seen.items = search rules in
    bound_next c.args.self.now _ c.args.name c.args.ty.0 (record { id = record { 0 = c.len.result }; name = c.args.name; ty = c.args.ty })
    (ap (λ n. record { id = n; name = c.args.name.0; ty = c.args.ty.0 }) next) c.in_ok-push.ensures.items c.in_ok-insert.ensures.has refl refl
