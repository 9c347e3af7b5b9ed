use Rattle.std.proofs.Common.{◌∷◌, OnOk, subst, to_z-of_z}
use Rattle.std.specs.Int.{w128}
use Rattle.model_code.specs.Tokens.{number}
use Rattle.model_code.specs.Pieces.{token}
use Rattle.rust_text.specs.Adding.{Adds}
use Rattle.rust_text.proofs.places.add_int.Goals as goal

pub returns : goal.returns
returns c =
    subst (λ z. OnOk c.add_token.result (Adds c.args.out.now.items c.add_token.new.out.items (λ p rest. token (number z (p.ending c.args.ty.0)) ∷ rest)))
    (to_z-of_z {w = w128} {z = c.args.val} (record { sfits = c.ranges.val.sfits })) c.add_token.ensures
