use Rattle.std.proofs.Common.{rules, ◌≡◌, ◌-◌, ◌^◌, pos, ◌<ℤ◌, ◌-ℤ◌, ◌∙◌}
use mir.Syntax.{w128}
use mir.Val.{SFits}
use Rattle.std.proofs.lemmas.Int.{to_z-of_z}
use Rattle.model.specs.lists.Ranges.{unsigned, reduce}
use Rattle.core_types.proofs.Reducing.{small_rest, large_rest}
use Rattle.core_types.proofs.builtin.reduce_signed.Goals as goal

pub returns-then-rest-words_of : goal.returns-then-rest-words_of
returns-then-rest-words_of c =
    let fits : SFits w128 c.reduce_unsigned-rest.result = search rules in
    let is : c.reduce_unsigned-rest.result ≡ reduce (unsigned c.args.bits) c.args.val = search rules in
    let half : c.words_of.result ≡ pos (2 ^ (c.args.bits - 1)) = search rules in
    let less : c.reduce_unsigned-rest.result <ℤ c.words_of.result = search rules in
    to_z-of_z w128 c.reduce_unsigned-rest.result fits ∙ small_rest c.args.bits c.args.val c.requires.some c.reduce_unsigned-rest.result c.words_of.result is half less

pub returns-else-rest-words_of : goal.returns-else-rest-words_of
returns-else-rest-words_of c =
    let fits : SFits w128 c.reduce_unsigned-rest.result = search rules in
    let fits_all : SFits w128 c.words_of-else-rest-words_of.result = search rules in
    let is : c.reduce_unsigned-rest.result ≡ reduce (unsigned c.args.bits) c.args.val = search rules in
    let half : c.words_of.result ≡ pos (2 ^ (c.args.bits - 1)) = search rules in
    let all : c.words_of-else-rest-words_of.result ≡ pos (2 ^ c.args.bits) = search rules in
    let more : c.reduce_unsigned-rest.result <ℤ c.words_of.result → ⊥ = search rules in
    let fits_rest : SFits w128 (c.reduce_unsigned-rest.result -ℤ c.words_of-else-rest-words_of.result) = search rules in
    rw (to_z-of_z w128 c.reduce_unsigned-rest.result fits, to_z-of_z w128 c.words_of-else-rest-words_of.result fits_all)
    (to_z-of_z w128 (c.reduce_unsigned-rest.result -ℤ c.words_of-else-rest-words_of.result) fits_rest
    ∙ large_rest c.args.bits c.args.val c.requires.some c.reduce_unsigned-rest.result c.words_of.result c.words_of-else-rest-words_of.result is half all more)
