use Rattle.std.proofs.Common.{◌≡◌, ◌∙◌, Some, sym, ap}
use Rattle.model.specs.rules.Matching.{single, pure_term}
use Rattle.run_terms.specs.ValueViews.{value_views}
use Rattle.run_terms.proofs.ValueSteps.{view-Struct, view-Variant}
use Rattle.model.specs.rules.Meaning.{total}
use Rattle.run_terms.proofs.Entries.{call_entry, known, not_known, struct_entry, variant_entry}
use Rattle.run_terms.proofs.exprs.pure_term.Goals as goal

pub returns-in-EnumVariant : goal.returns-in-EnumVariant
returns-in-EnumVariant g c =
    let e = c.in-Some.entry.now in
    let found = c.in-Some.ensures.lookup in
    let k = known c.args.source.now.terms.now c.index.result c.args.term.0 e c.index.ensures found.3.0 found.1 ∙ variant_entry e c.in-EnumVariant.variant c.in-EnumVariant.is in
    ap Some (view-Variant e.ret_ty c.in-EnumVariant.variant c.args.args)
    ∙ sym (ap (λ q. pure_term q (total (g.E.Externs.functions c.args.source.now.externs.now)) c.args.term.0 (value_views c.args.args.items)) k)

pub returns-in-Struct : goal.returns-in-Struct
returns-in-Struct g c =
    let e = c.in-Some.entry.now in
    let found = c.in-Some.ensures.lookup in
    let k = known c.args.source.now.terms.now c.index.result c.args.term.0 e c.index.ensures found.3.0 found.1 ∙ struct_entry e c.in-Struct.is in
    ap Some (view-Struct e.ret_ty c.args.args) ∙ sym (ap (λ q. pure_term q (total (g.E.Externs.functions c.args.source.now.externs.now)) c.args.term.0 (value_views c.args.args.items)) k)

pub returns-in_ok-single-in-Decl : goal.returns-in_ok-single-in-Decl
returns-in_ok-single-in-Decl g c =
    let e = c.in-Some.entry.now in
    let found = c.in-Some.ensures.lookup in
    let m = total (g.E.Externs.functions c.args.source.now.externs.now) in
    let k = known c.args.source.now.terms.now c.index.result c.args.term.0 e c.index.ensures found.3.0 found.1 ∙ call_entry e c.in-Decl.flags c.in-Decl.constructor_kind c.in-Decl.extractor_kind c.in-Decl.is in
    c.in_ok-single-in-Decl.ensures ∙ ap single (c.in_ok-answer-in-Decl.ensures ∙ ap (λ l. (g.E.Externs.functions c.args.source.now.externs.now).pures c.args.term.0 (value_views l)) c.deref.ensures.value)
    ∙ sym (ap (λ q. pure_term q m c.args.term.0 (value_views c.args.args.items)) k)

pub returns-in-None : goal.returns-in-None
returns-in-None g c =
    let k = not_known c.args.source.now.terms.now c.index.result c.args.term.0 c.index.ensures c.in-None.ensures.lookup.3 in
    sym (ap (λ q. pure_term q (total (g.E.Externs.functions c.args.source.now.externs.now)) c.args.term.0 (value_views c.args.args.items)) k)
