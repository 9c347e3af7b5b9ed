use Rattle.std.proofs.Common.{refl, sym, inl}
use Rattle.core_types.proofs.TypeMaps.{read_ids}
use Rattle.core_types.proofs.type_env.TypeEnv.read_constant.Goals as goal

pub returns-clause-reads : goal.returns-clause-reads
returns-clause-reads c = inl (
  refl,
  record {
    id = c.in-Some.id.0;
    known = sym c.in-Some.ensures;
    names = c.in_ok-sym.ensures.names;
    constants = λ k. rw (← c.in_ok-sym.ensures.const_types, ← c.in_ok-sym.ensures.number) (read_ids c.intern_mut.new.self.const_types c.insert.new.self c.in_ok-sym.sym _ c.in_ok-insert.ensures.has k);
    types = c.in_ok-sym.ensures.types;
    type_map = c.in_ok-sym.ensures.type_map;
    errors = c.in_ok-sym.ensures.errors;
  },
)
