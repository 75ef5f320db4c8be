-- The proof of `access::step`.
use Rattle.access.proofs.Steps.{ready_rest, shapes_rest, done, done_new, over_heap}
use Rattle.access.proofs.HeapKeys.{said_whole, new_whole, no_other, no_end, starts_inside, byte_at}
use Rattle.rules.specs.declared.Instruction.TheVariants.{Tload, Tstore, Bump, Null, Delete, Flea}
use mathlib.Core.Path.{refl, sym, ◌∙◌}
use mathlib.Core.Bool.{true, false}
use Rattle.access.proofs.step.Goals as goal

pub decode-requires : goal.decode-requires
decode-requires c =
    starts_inside _ _ _ c.requires.place_lt_stop.1.1

pub returns-in_default : goal.returns-in_default
returns-in_default c =
    no_end _ _ (sym c.decode.ensures ∙ c.in_default.is)

pub flea-requires : goal.flea-requires
flea-requires c =
    let there = byte_at _ _ _ _ c.decode.ensures c.in-Some.is c.requires.place_lt_stop.1 in
    record { heap_ready = ready_rest _ _ c.requires.packed _ _ _ _ c.requires.heap_ready; ready_on = (c.requires.ready_on.0, c.requires.place_lt_stop.0, said_whole _ _ 6 Flea (there ∙ c.in-6.is) (λ w. refl) _ c.requires.place_lt_stop.1.1 5 (λ w. refl), c.requires.ready_on.1) }

pub tload-requires : goal.tload-requires
tload-requires c =
    record { heap_ready = ready_rest _ _ c.requires.packed _ _ _ _ c.requires.heap_ready; ready_on = (c.requires.ready_on.0, c.requires.place_lt_stop.0, c.requires.ready_on.1) }

pub tstore-requires : goal.tstore-requires
tstore-requires c =
    record { heap_ready = ready_rest _ _ c.requires.packed _ _ _ _ c.requires.heap_ready; ready_on = (c.requires.ready_on.0, c.requires.place_lt_stop.0, c.requires.ready_on.1) }

pub bump-requires : goal.bump-requires
bump-requires c =
    record { heap_ready = ready_rest _ _ c.requires.packed _ _ _ _ c.requires.heap_ready; ready_on = (c.requires.ready_on.0, c.requires.place_lt_stop.0, c.requires.ready_on.1) }

pub bump-requires-in-21 : goal.bump-requires-in-21
bump-requires-in-21 c =
    record { heap_ready = ready_rest _ _ c.requires.packed _ _ _ _ c.requires.heap_ready; ready_on = (c.requires.ready_on.0, c.requires.place_lt_stop.0, c.requires.ready_on.1) }

pub new-requires : goal.new-requires
new-requires c =
    let there = byte_at _ _ _ _ c.decode.ensures c.in-Some.is c.requires.place_lt_stop.1 in
    record { heap_ready = ready_rest _ _ c.requires.packed _ _ _ _ c.requires.heap_ready; ready_on = (c.requires.ready_on.0, c.requires.place_lt_stop.0, new_whole _ _ _ _ there c.in-49.is c.requires.place_lt_stop.1.1) }

pub delete-requires : goal.delete-requires
delete-requires c =
    record { heap_ready = ready_rest _ _ c.requires.packed _ _ _ _ c.requires.heap_ready; ready_on = (c.requires.ready_on.0, c.requires.place_lt_stop.0) }

pub returns-in-6 : goal.returns-in-6
returns-in-6 c =
    let there = byte_at _ _ _ _ c.decode.ensures c.in-Some.is c.requires.place_lt_stop.1 in
    done _ _ c.requires.packed _ _ _ _ _ _ _ _ _ _ _ _ _ _ _ 6 Flea (there ∙ c.in-6.is) (λ w. refl) (c.flea.ensures _ (shapes_rest _ _ c.requires.packed))

pub returns-in-7 : goal.returns-in-7
returns-in-7 c =
    let there = byte_at _ _ _ _ c.decode.ensures c.in-Some.is c.requires.place_lt_stop.1 in
    done _ _ c.requires.packed _ _ _ _ _ _ _ _ _ _ _ _ _ _ _ 7 (λ w. Tload) (there ∙ c.in-7.is) (λ w. refl) (c.tload.ensures _ (shapes_rest _ _ c.requires.packed))

pub returns-in-8 : goal.returns-in-8
returns-in-8 c =
    let there = byte_at _ _ _ _ c.decode.ensures c.in-Some.is c.requires.place_lt_stop.1 in
    done _ _ c.requires.packed _ _ _ _ _ _ _ _ _ _ _ _ _ _ _ 8 (λ w. Tstore) (there ∙ c.in-8.is) (λ w. refl) (c.tstore.ensures _ (shapes_rest _ _ c.requires.packed))

pub returns-in-20 : goal.returns-in-20
returns-in-20 c =
    let there = byte_at _ _ _ _ c.decode.ensures c.in-Some.is c.requires.place_lt_stop.1 in
    done _ _ c.requires.packed _ _ _ _ _ _ _ _ _ _ _ _ _ _ _ 20 (λ w. Bump true) (there ∙ c.in-20.is) (λ w. refl) (c.bump.ensures _ (shapes_rest _ _ c.requires.packed))

pub returns-in-21 : goal.returns-in-21
returns-in-21 c =
    let there = byte_at _ _ _ _ c.decode.ensures c.in-Some.is c.requires.place_lt_stop.1 in
    done _ _ c.requires.packed _ _ _ _ _ _ _ _ _ _ _ _ _ _ _ 21 (λ w. Bump false) (there ∙ c.in-21.is) (λ w. refl) (c.bump-in-21.ensures _ (shapes_rest _ _ c.requires.packed))

pub returns-in-48 : goal.returns-in-48
returns-in-48 c =
    let there = byte_at _ _ _ _ c.decode.ensures c.in-Some.is c.requires.place_lt_stop.1 in
    done _ _ c.requires.packed _ _ _ _ _ _ _ _ _ _ _ _ _ _ _ 48 (λ w. Null false) (there ∙ c.in-48.is) (λ w. refl) (over_heap _ (Null false) _ _ _ _ _ _ _ _ _ _ _ _ (ready_rest _ _ c.requires.packed _ _ _ _ c.requires.heap_ready) (c.null.ensures _))

pub returns-in-49 : goal.returns-in-49
returns-in-49 c =
    let there = byte_at _ _ _ _ c.decode.ensures c.in-Some.is c.requires.place_lt_stop.1 in
    done_new _ _ c.requires.packed _ _ _ _ _ _ _ _ _ _ _ _ _ _ _ _ there c.in-49.is (c.new.ensures _ (shapes_rest _ _ c.requires.packed))

pub returns-in-50 : goal.returns-in-50
returns-in-50 c =
    let there = byte_at _ _ _ _ c.decode.ensures c.in-Some.is c.requires.place_lt_stop.1 in
    done _ _ c.requires.packed _ _ _ _ _ _ _ _ _ _ _ _ _ _ _ 50 (λ w. Delete) (there ∙ c.in-50.is) (λ w. refl) (c.delete.ensures _)

pub returns-in-51 : goal.returns-in-51
returns-in-51 c =
    let there = byte_at _ _ _ _ c.decode.ensures c.in-Some.is c.requires.place_lt_stop.1 in
    done _ _ c.requires.packed _ _ _ _ _ _ _ _ _ _ _ _ _ _ _ 51 (λ w. Null true) (there ∙ c.in-51.is) (λ w. refl) (over_heap _ (Null true) _ _ _ _ _ _ _ _ _ _ _ _ (ready_rest _ _ c.requires.packed _ _ _ _ c.requires.heap_ready) (c.null-in-51.ensures _))

pub returns-in_default-key : goal.returns-in_default-key
returns-in_default-key c =
    let there = byte_at _ _ _ _ c.decode.ensures c.in-Some.is c.requires.place_lt_stop.1 in
    no_other c.args.code.now c.args.r.place c.in-Some.key _ (sym there) (search) c.requires.place_lt_stop.1.1 c.requires.place_lt_stop.1.2
