use Rattle.std.proofs.Common.{◌≡◌, Some, IfOk, IfErr, map, rules, subst}
use Rattle.serde_json.specs.View.{view}
use Rattle.board_package.specs.Manifest.{Misses, manifest_of}
use Rattle.board_package.proofs.ManifestForm.{no_members, no_copper, no_drills, netlist_missed, manifest_parts}
use Rattle.board_package.proofs.manifest.manifest_in.Goals as goal

pub returns-then-not-has_members-clause-fault : goal.returns-then-not-has_members-clause-fault
returns-then-not-has_members-clause-fault c = no_members (view c.args.value.now) c.if-not-has_members.ensures

pub returns-in_default-clause-fault : goal.returns-in_default-clause-fault
returns-in_default-clause-fault c = no_copper (view c.args.value.now) c.in_default.ensures

pub returns-in_default-list_at-clause-fault : goal.returns-in_default-list_at-clause-fault
returns-in_default-list_at-clause-fault c = no_drills (view c.args.value.now) c.in_default-list_at.ensures

pub returns-in_err-netlist-clause-fault : goal.returns-in_err-netlist-clause-fault
returns-in_err-netlist-clause-fault c =
    let fact : Misses (manifest_of (view c.args.value.now)) c.in_err-netlist.field-0.0 = netlist_missed (view c.args.value.now) c.in_err-netlist.field-0.0 c.in_err-netlist.ensures.fault in
    search (rules, fact)

pub returns-clause-ok : goal.returns-clause-ok
returns-clause-ok c =
    subst (λ o. IfOk c.manifest_from.result (λ m. o ≡ Some m))
    (manifest_parts (view c.args.value.now) (map view c.in-Some.copper.now) (map view c.in-Some-list_at.drills.now) c.in_ok-netlist.netlist c.if-not-has_members.ensures c.in-Some.ensures c.in-Some-list_at.ensures c.in_ok-netlist.ensures.ok)
    c.manifest_from.ensures.ok

pub returns-clause-fault : goal.returns-clause-fault
returns-clause-fault c =
    subst (λ o. IfErr c.manifest_from.result (Misses o))
    (manifest_parts (view c.args.value.now) (map view c.in-Some.copper.now) (map view c.in-Some-list_at.drills.now) c.in_ok-netlist.netlist c.if-not-has_members.ensures c.in-Some.ensures c.in-Some-list_at.ensures c.in_ok-netlist.ensures.ok)
    c.manifest_from.ensures.fault
