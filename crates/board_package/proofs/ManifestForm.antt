-- The form of a manifest.
use Rattle.std.proofs.Common.{◌≡◌, ℕ, Bool, true, false, cond, List, Option, Some, None, codes, refl}
use Rattle.serde_json.specs.Data.{Data}
use Rattle.board_package.specs.Manifest.{has_members, list_at, name_at, manifest_of, manifest_from, Misses}
use Rattle.board_package.specs.declared.manifest.ManifestFault.{ManifestFault}
use Rattle.board_package.specs.declared.manifest.ManifestFault.TheVariants.{NotJson, BadManifest, NoMemory}

unless : {A : Type 0} (b : Bool) (o : Option A) → o ≡ None → cond b o None ≡ None
unless true o e = e
unless false o e = refl

pub no_members : (value : Data) → false ≡ has_members 3 value → manifest_of value ≡ None
unfolding manifest_of
no_members value e = rw (← e) refl

pub no_copper : (value : Data) → None ≡ list_at (codes "copper") value → manifest_of value ≡ None
unfolding manifest_of
no_copper value e = unless (has_members 3 value) _ (rw (← e) refl)

no_drills_from : (o : Option (List Data)) (n : Option (List ℕ)) → manifest_from o None n ≡ None
no_drills_from None n = refl
no_drills_from (Some copper) n = refl

pub no_drills : (value : Data) → None ≡ list_at (codes "drills") value → manifest_of value ≡ None
unfolding manifest_of
no_drills value e = unless (has_members 3 value) _ (rw (← e) (no_drills_from _ _))

no_netlist_from : (o p : Option (List Data)) → manifest_from o p None ≡ None
no_netlist_from None p = refl
no_netlist_from (Some copper) None = refl
no_netlist_from (Some copper) (Some drills) = refl

pub netlist_missed : (value : Data) (why : ManifestFault) → Misses (name_at (codes "netlist") value) why → Misses (manifest_of value) why
unfolding manifest_of
netlist_missed value NotJson h = h
netlist_missed value BadManifest h = unless (has_members 3 value) _ (rw h (no_netlist_from _ _))
netlist_missed value NoMemory h = tt

-- a value with the three parts is the manifest of these
pub manifest_parts : (value : Data) (copper drills : List Data) (netlist : List ℕ) → true ≡ has_members 3 value → Some copper ≡ list_at (codes "copper") value → Some drills ≡ list_at (codes "drills") value → name_at (codes "netlist") value ≡ Some netlist
    → manifest_from (Some copper) (Some drills) (Some netlist) ≡ manifest_of value
unfolding manifest_of
manifest_parts value copper drills netlist a b d e = rw (← a, ← b, ← d, e) refl
