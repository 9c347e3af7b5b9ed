use Rattle.std.proofs.Common.{◌≡◌, ◌∙◌, sym, ap}
use Rattle.model.specs.rules.Meaning.{answered_outputs, total}
use Rattle.model.specs.rules.Matching.{parts_seen}
use Rattle.run_terms.specs.ValueViews.{value_view}
use Rattle.run_terms.proofs.Entries.{call_entry, known, not_known, struct_entry, variant_entry}
use Rattle.run_terms.proofs.patterns.parts_seen.Goals as goal

pub returns-in_ok-variant_parts-in-EnumVariant : goal.returns-in_ok-variant_parts-in-EnumVariant
returns-in_ok-variant_parts-in-EnumVariant g c =
    let e = c.in-Some.entry.now in
    let found = c.in-Some.ensures.lookup in
    let m = total (g.E.Externs.functions c.args.source.now.externs.now) in
    let k = known c.args.source.now.terms.now c.index.result c.args.term.0 e c.index.ensures found.3.0 found.1 ∙ variant_entry e c.in-EnumVariant.variant c.in-EnumVariant.is in
    c.in_ok-variant_parts-in-EnumVariant.ensures m c.args.term.0 ∙ sym (ap (λ q. parts_seen q m c.args.term.0 (value_view c.args.value.now)) k)

pub returns-in_ok-struct_parts-in-Struct : goal.returns-in_ok-struct_parts-in-Struct
returns-in_ok-struct_parts-in-Struct g c =
    let e = c.in-Some.entry.now in
    let found = c.in-Some.ensures.lookup in
    let m = total (g.E.Externs.functions c.args.source.now.externs.now) in
    let k = known c.args.source.now.terms.now c.index.result c.args.term.0 e c.index.ensures found.3.0 found.1 ∙ struct_entry e c.in-Struct.is in
    c.in_ok-struct_parts-in-Struct.ensures m c.args.term.0 ∙ sym (ap (λ q. parts_seen q m c.args.term.0 (value_view c.args.value.now)) k)

pub returns-in_ok-answered_outputs-in-Decl : goal.returns-in_ok-answered_outputs-in-Decl
returns-in_ok-answered_outputs-in-Decl g c =
    let e = c.in-Some.entry.now in
    let found = c.in-Some.ensures.lookup in
    let m = total (g.E.Externs.functions c.args.source.now.externs.now) in
    let k = known c.args.source.now.terms.now c.index.result c.args.term.0 e c.index.ensures found.3.0 found.1 ∙ call_entry e c.in-Decl.flags c.in-Decl.constructor_kind c.in-Decl.extractor_kind c.in-Decl.is in
    c.in_ok-answered_outputs-in-Decl.ensures ∙ ap answered_outputs c.in_ok-answer-in-Decl.ensures ∙ sym (ap (λ q. parts_seen q m c.args.term.0 (value_view c.args.value.now)) k)

pub returns-in-None : goal.returns-in-None
returns-in-None g c =
    let m = total (g.E.Externs.functions c.args.source.now.externs.now) in
    let k = not_known c.args.source.now.terms.now c.index.result c.args.term.0 c.index.ensures c.in-None.ensures.lookup.3 in
    sym (ap (λ q. parts_seen q m c.args.term.0 (value_view c.args.value.now)) k)
