use Rattle.std.proofs.Common.{◌≡◌, [], length, ◌∙◌, arith, append-nil}
use Rattle.std.proofs.lemmas.List.{length-map}
use Rattle.std.proofs.lemmas.Option.{get_or_from_slice_get}
use Rattle.core_containers.specs.Numbers.{sets_of, Vacant}
use Rattle.core_containers.proofs.Puts.{free_place, free_within, vector_put, vector_pushed, vacant_popped, vacant_kept, vacancies_past}
use Rattle.core_containers.proofs.disjointsets.place.Goals as goal

pub index_mut-requires : goal.index_mut-requires
index_mut-requires g c =
    let f = free_place c.args.free.now.items c.pop.new.self.items c.in-Some.class (sets_of c.args.members.now.items) c.in-Some.ensures.items c.requires.vacant in
    let w = free_within (sets_of c.args.members.now.items) c.in-Some.class f in
    omega (arith, w, length-map c.args.members.now.items (λ v. v.items), c.args.members.now.ok.0)

pub returns-in-Some-clause-put : goal.returns-in-Some-clause-put
returns-in-Some-clause-put g c =
    let f = free_place c.args.free.now.items c.pop.new.self.items c.in-Some.class (sets_of c.args.members.now.items) c.in-Some.ensures.items c.requires.vacant in
    let w = free_within (sets_of c.args.members.now.items) c.in-Some.class f in
    vector_put c.args.members.now.items c.in-Some.class c.args.set (omega (arith, w, length-map c.args.members.now.items (λ v. v.items)))

pub returns-in-Some-clause-before : goal.returns-in-Some-clause-before
returns-in-Some-clause-before g c =
    get_or_from_slice_get (sets_of c.args.members.now.items) c.in-Some.class [] [] (free_place c.args.free.now.items c.pop.new.self.items c.in-Some.class (sets_of c.args.members.now.items) c.in-Some.ensures.items c.requires.vacant)

pub returns-in-Some-clause-vacant : goal.returns-in-Some-clause-vacant
returns-in-Some-clause-vacant g c =
    vacant_popped (returns-in-Some-clause-put g c) c.args.free.now.items c.pop.new.self.items c.in-Some.ensures.items (omega (arith, c.requires.filled, c.args.set.ok.0)) c.requires.vacant

pub returns-in-None-clause-put : goal.returns-in-None-clause-put
returns-in-None-clause-put g c =
    let n : c.len-class.result ≡ length c.args.members.now.items = omega (arith, c.len-class.ensures, c.args.members.now.ok.0) in
    rw (c.push_within.ensures, n) (vector_pushed c.args.members.now.items c.args.set)

pub returns-in-None-clause-vacant : goal.returns-in-None-clause-vacant
returns-in-None-clause-vacant g c =
    let v : Vacant c.pop.new.self.items (sets_of c.args.members.now.items) = rw (c.in-None.ensures.items ∙ append-nil c.pop.new.self.items) at c.requires.vacant in
    let past = vacancies_past (sets_of c.args.members.now.items) c.len-class.result (omega (arith, c.len-class.ensures, c.args.members.now.ok.0, length-map c.args.members.now.items (λ v. v.items))) in
    vacant_kept (returns-in-None-clause-put g c) c.pop.new.self.items past (omega (arith, c.requires.filled, c.args.set.ok.0)) v
