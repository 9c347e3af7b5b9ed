use Rattle.std.proofs.Common.{◌∷◌, OnOk, FitsSigned, subst, sym, rules, to_z-of_z}
use Rattle.std.specs.Int.{w128}
use Rattle.model_code.specs.Tokens.{number}
use Rattle.model_code.specs.Pieces.{place_before, token}
use Rattle.rust_code.specs.CodeViews.{place_view}
use Rattle.rust_text.specs.Adding.{Adds}
use Rattle.rust_text.proofs.places.add_place.Goals as goal

pub returns-in-IntWritten : goal.returns-in-IntWritten
returns-in-IntWritten c =
    let fits : FitsSigned w128 c.in-IntWritten.val = search rules in
    subst (λ place. OnOk c.add_int.result (Adds c.args.out.now.items c.add_int.new.out.items (λ p rest. place_before p (place_view place) rest))) (sym c.in-IntWritten.is)
    (subst (λ z. OnOk c.add_int.result (Adds c.args.out.now.items c.add_int.new.out.items (λ p rest. token (number z (p.ending c.in-IntWritten.ty.0)) ∷ rest))) (to_z-of_z {w = w128} {z = c.in-IntWritten.val} fits) c.add_int.ensures)
