use Rattle.std.proofs.Common.{◌≡◌, ◌<◌, ◌++◌, ◌∷◌, [], length, ◌∙◌, rules}
use Rattle.core_types.proofs.FieldSteps.{reads_first, reads_next, reads_wrong, reads_last}
use Rattle.core_types.proofs.type_env.TypeEnv.read_struct_fields.Goals as goal

pub loop-field-init : goal.loop-field-init
loop-field-init c =
    reads_first c.args.fields.now _ _ c.args.self.now _ c.requires c.new-read.ensures.items (λ k. c.new-seen.ensures.none (record { 0 = k }))

pub loop-field-preserved : goal.loop-field-preserved
loop-field-preserved c =
    let items : c.push.new.self.items ≡ c.loop-field.read.items ++ c.in-Some.field ∷ [] = search rules in
    let within : c.loop-field.field-index < length c.args.fields.now = search rules in
    rw items (reads_next c.args.fields.now c.loop-field.field-index c.field-item.result within c.field-item.is c.loop-field.read.items c.loop-field.seen _ c.args.self.now c.loop-field.self _ c.args.errors.now.items _ _ c.loop-field.invariant c.in_ok-field.ensures.meets c.in_ok-field.ensures.inverse c.len.result c.in-Some.field (c.len.ensures ∙ c.loop-field.read.ok.0) (rw c.in-Some.is at c.in_ok-field.ensures.reads))

pub returns-in_default-clause-reads : goal.returns-in_default-clause-reads
returns-in_default-clause-reads c =
    let within : c.loop-field.field-index < length c.args.fields.now = search rules in
    reads_wrong c.args.fields.now c.loop-field.field-index c.field-item.result within c.field-item.is c.loop-field.read.items c.loop-field.seen c.read_struct_field.new.seen c.args.self.now c.loop-field.self c.read_struct_field.new.self c.args.errors.now.items _ _ c.loop-field.invariant c.in_ok-field.ensures.meets c.in_ok-field.ensures.inverse c.len.result (rw c.in_default.is at c.in_ok-field.ensures.reads)

pub returns-clause-reads : goal.returns-clause-reads
returns-clause-reads c =
    reads_last c.args.fields.now c.loop-field.field-index c.loop-field-test.false c.loop-field.read.items c.loop-field.seen c.args.self.now c.args.errors.now.items c.loop-field.self _ c.loop-field.invariant
