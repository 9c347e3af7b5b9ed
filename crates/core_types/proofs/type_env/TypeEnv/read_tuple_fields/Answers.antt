use Rattle.std.proofs.Common.{◌≡◌, ◌<◌, ◌++◌, ◌∷◌, [], length, ◌∙◌, rules}
use Rattle.core_types.proofs.FieldSteps.{reads_first_tuple, reads_next_tuple, reads_wrong_tuple, reads_last_tuple}
use Rattle.core_types.proofs.type_env.TypeEnv.read_tuple_fields.Goals as goal

pub loop-field-init : goal.loop-field-init
loop-field-init c = reads_first_tuple c.args.fields.now _ c.args.self.now _ c.new-read.ensures.items

pub loop-field-preserved : goal.loop-field-preserved
loop-field-preserved c =
    let items : c.push.new.self.items ≡ c.loop-field.read.items ++ c.in-Some.field ∷ [] = search rules in
    let within : c.loop-field.field-index < length c.args.fields.now = search rules in
    rw items (reads_next_tuple c.args.fields.now c.loop-field.field-index c.field-item.result within c.field-item.is c.loop-field.read.items c.args.self.now c.args.errors.now.items _ _ c.loop-field.invariant c.requires c.len.result c.in-Some.field (c.len.ensures ∙ c.loop-field.read.ok.0) (rw c.in-Some.is at c.in_ok-field.ensures.reads))

pub returns-in_default : goal.returns-in_default
returns-in_default c =
    let within : c.loop-field.field-index < length c.args.fields.now = search rules in
    record { reads = reads_wrong_tuple c.args.fields.now c.loop-field.field-index c.field-item.result within c.field-item.is c.loop-field.read.items c.args.self.now c.args.errors.now.items _ _ c.loop-field.invariant c.requires c.len.result (rw c.in_default.is at c.in_ok-field.ensures.reads) }

pub returns : goal.returns
returns c =
    record { reads = reads_last_tuple c.args.fields.now c.loop-field.field-index c.loop-field-test.false c.loop-field.read.items c.args.self.now c.args.errors.now.items _ c.loop-field.invariant }
