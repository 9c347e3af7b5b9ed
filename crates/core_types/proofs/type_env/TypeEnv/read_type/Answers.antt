use Rattle.std.proofs.Common.{map, sym, ap, ◌∙◌}
use Rattle.std.proofs.lemmas.Result.{IfOk-weaker}
use Rattle.model.specs.lists.Syntax.{enum_value}
use Rattle.model.specs.lists.TypeTable.{all_type_names}
use Rattle.core_syntax.specs.SyntaxViews as views
use Rattle.core_types.proofs.NamesMet.{meet_known, sees_met}
use Rattle.core_types.proofs.RightValues.{named_now, type_kept}
use Rattle.core_types.proofs.type_env.TypeEnv.read_type.Goals as goal

pub read_enum-requires-clause-name : goal.read_enum-requires-clause-name
read_enum-requires-clause-name c = let n = c.in_ok-name.ensures in named_now c.in_ok-name.name.0 _ c.args.self.now c.intern_mut.new.self n.names n.number

pub read_struct-requires-clause-name : goal.read_struct-requires-clause-name
read_struct-requires-clause-name c = let n = c.in_ok-name.ensures in named_now c.in_ok-name.name.0 _ c.args.self.now c.intern_mut.new.self n.names n.number

pub returns-in-Primitive-clause-reads : goal.returns-in-Primitive-clause-reads
returns-in-Primitive-clause-reads c =
    let n = c.in_ok-name.ensures in
    IfOk-weaker c.read_primitive.result _ _
    (λ o e. λ defs s h.
    let m = meet_known _ c.args.self.now c.intern_mut.new.self h n.names n.types n.type_map n.const_types n.errors in
    type_kept defs c.args.id.0 c.args.ty.now _ o _ _ _ _ _ (ap views.type_value_view c.in-Primitive.is) m (e defs (views.position c.in-Primitive.field-1)))
    c.read_primitive.ensures.reads

pub returns-in-Enum-clause-reads : goal.returns-in-Enum-clause-reads
returns-in-Enum-clause-reads c =
    let n = c.in_ok-name.ensures in
    IfOk-weaker c.read_enum.result _ _
    (λ o e. λ defs s h.
    let m = meet_known _ c.args.self.now c.intern_mut.new.self h n.names n.types n.type_map n.const_types n.errors in
    let value = ap views.type_value_view c.in-Enum.is ∙ ap (λ l. enum_value (map views.variant_view l) (views.position c.in-Enum.field-1)) (sym c.deref.ensures.value) in
    type_kept defs c.args.id.0 c.args.ty.now _ o _ _ _ _ _ value m (e defs (views.position c.in-Enum.field-1) (sees_met (all_type_names defs) _ c.args.self.now c.intern_mut.new.self m s)))
    c.read_enum.ensures.reads

pub returns-in-Struct-clause-reads : goal.returns-in-Struct-clause-reads
returns-in-Struct-clause-reads c =
    let n = c.in_ok-name.ensures in
    IfOk-weaker c.read_struct.result _ _
    (λ o e. λ defs s h.
    let m = meet_known _ c.args.self.now c.intern_mut.new.self h n.names n.types n.type_map n.const_types n.errors in
    type_kept defs c.args.id.0 c.args.ty.now _ o _ _ _ _ _ (ap views.type_value_view c.in-Struct.is) m (e defs (views.position c.in-Struct.field-1) (sees_met (all_type_names defs) _ c.args.self.now c.intern_mut.new.self m s)))
    c.read_struct.ensures.reads
