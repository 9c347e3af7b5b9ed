-- What the terms of the code say, as entries of the term table.
use Rattle.std.specs.Prelude.{List, map, option_map}
use Rattle.model.specs.lists.Tables.{Flags, ConstructorEntry, internal_constructor, external_constructor, ExtractorEntry, internal_extractor, external_extractor, TermKindEntry, variant_term, struct_term, declared_term, TermEntry}
use Rattle.core_syntax.specs.SyntaxViews.{position, pattern_view}
use Rattle.core_terms.specs.declared.term.TermFlags.{TermFlags}
use Rattle.core_terms.specs.declared.term.ConstructorKind.{ConstructorKind}
use Rattle.core_terms.specs.declared.term.ConstructorKind.TheVariants.{InternalConstructor, ExternalConstructor}
use Rattle.core_terms.specs.declared.term.ExtractorKind.{ExtractorKind}
use Rattle.core_terms.specs.declared.term.ExtractorKind.TheVariants.{InternalExtractor, ExternalExtractor}
use Rattle.core_terms.specs.declared.term.TermKind.{TermKind}
use Rattle.core_terms.specs.declared.term.TermKind.TheVariants.{EnumVariant, Struct, Decl}
use Rattle.core_terms.specs.declared.term.Term.{Term}

abbrev pub flags_view : TermFlags → Flags
flags_view f = record { pure = f.pure; multi = f.multi; partial = f.partial; rec = f.rec }

abbrev pub constructor_view : ConstructorKind → ConstructorEntry
constructor_view InternalConstructor = internal_constructor
constructor_view (ExternalConstructor name) = external_constructor name.0

abbrev pub extractor_view : ExtractorKind → ExtractorEntry
extractor_view (InternalExtractor template) = internal_extractor (pattern_view template)
extractor_view (ExternalExtractor name infallible pos) = external_extractor name.0 infallible (position pos)

abbrev pub kind_view : TermKind → TermKindEntry
kind_view (EnumVariant variant) = variant_term variant.0
kind_view Struct = struct_term
kind_view (Decl flags constructor_kind extractor_kind) =
    declared_term (flags_view flags) (option_map constructor_view constructor_kind) (option_map extractor_view extractor_kind)

abbrev pub term_view : Term → TermEntry
term_view t = record {
  id = t.id.0;
  at = position t.decl_pos;
  name = t.name.0;
  arg_tys = map (λ ty. ty.0) t.arg_tys.items;
  ret_ty = t.ret_ty.0;
  kind = kind_view t.kind;
}

abbrev pub term_views : List Term → List TermEntry
term_views ts = map term_view ts
