use Rattle.std.proofs.Common.{◌∷◌, OnOk, FitsSigned, subst, sym, rules, to_z-of_z}
use Rattle.std.specs.Int.{w128}
use Rattle.model_code.specs.Tokens.{number}
use Rattle.model_code.specs.Pieces.{constant_before, token}
use Rattle.core_rule_sets.specs.SiteViews.{constraint_view}
use Rattle.rust_text.specs.Adding.{Adds}
use Rattle.rust_text.proofs.patterns.add_constant.Goals as goal

pub returns-in-ConstInt : goal.returns-in-ConstInt
returns-in-ConstInt c =
    let fits : FitsSigned w128 c.in-ConstInt.val = search rules in
    subst (λ asked. OnOk c.add_int.result (Adds c.args.out.now.items c.add_int.new.out.items (λ p rest. constant_before p (constraint_view asked) rest))) (sym c.in-ConstInt.is)
    (subst (λ z. OnOk c.add_int.result (Adds c.args.out.now.items c.add_int.new.out.items (λ p rest. token (number z (p.ending c.in-ConstInt.ty.0)) ∷ rest))) (to_z-of_z {w = w128} {z = c.in-ConstInt.val} fits) c.add_int.ensures)
