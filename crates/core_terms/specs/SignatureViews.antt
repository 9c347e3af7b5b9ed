-- What the signatures of the code say.
use Rattle.std.specs.Prelude.{map, string_bytes}
use Rattle.model.specs.lists.Signatures.{Giving, gives_one, gives_one_or_none, gives_any_number, Signature}
use Rattle.core_terms.specs.declared.signature.ReturnKind as R
use Rattle.core_terms.specs.declared.signature.ReturnKind.TheVariants as K
use Rattle.core_terms.specs.declared.signature.ExternalSig.{ExternalSig}

abbrev pub giving_view : R.ReturnKind → Giving
giving_view K.Plain = gives_one
giving_view K.Option = gives_one_or_none
giving_view K.Iterator = gives_any_number

abbrev pub signature_view : ExternalSig → Signature
signature_view s = record {
  func_name = string_bytes s.func_name;
  full_name = string_bytes s.full_name;
  param_tys = map (λ t. t.0) s.param_tys.items;
  ret_tys = map (λ t. t.0) s.ret_tys.items;
  ret_kind = giving_view s.ret_kind;
}
