-- A document without a fault keeps the limits of the medium.
use Rattle.std.proofs.Common.{◌≡◌, ◌≤◌, ℕ, List, [], ◌∷◌, map, codes, refl, pos, neg_ℤ, unsigned_abs}
use Rattle.std.proofs.Common.{Some, None, lit<, All, zero, suc, arith}
use Rattle.std.proofs.lemmas.List.{length-map}
use Rattle.toml.specs.Data.{Members}
use Rattle.radio_medium.specs.Medium.{IsWithinLimits}
use Rattle.radio_medium.specs.declared.place.Place.{Place}
use Rattle.net_scenario.specs.Document.{version_of, integer_at, table_at, tables_at, first_some}
use Rattle.mote_net.specs.Limits.{latest_end}
use Rattle.net_scenario.specs.Net.{place_in, loss_of}
use Rattle.net_scenario.specs.Rules.{keys_fault, top_rules, medium_rules, mote_rules}
use Rattle.net_scenario.specs.declared.version.Version.TheVariants.{First}
use Rattle.net_scenario.proofs.Each.{Faultless, or_none}
use Rattle.net_scenario.proofs.Keeps.{keeps_all, number_kept, natural_within, signed_within}
use Rattle.net_scenario.proofs.Reading.{few_motes}

abbrev pub IsNear : Place → Type 0
IsNear p = (unsigned_abs p.x ≤ 30000) × (unsigned_abs p.y ≤ 30000)

near : (ms : Members) → keys_fault mote_rules ms ≡ None → IsNear (place_in ms)
near ms h = (
  signed_within 30000 (codes "x") ms (number_kept (neg_ℤ (pos 30000))
      (pos 30000) _ _ (keeps_all First mote_rules ms h 0 (lit< tt) refl)),
  signed_within 30000 (codes "y") ms (number_kept (neg_ℤ (pos 30000))
      (pos 30000) _ _ (keeps_all First mote_rules ms h 1 (lit< tt) refl)),
)

-- each coordinate of a place is within its limits
pub all_near : (ts : List Members) → first_some (keys_fault mote_rules) ts ≡ None → All IsNear (map place_in ts)
all_near [] h k d lt = absurd (omega arith)
all_near (t ∷ ts) h zero d lt = near t (or_none _ _ h).0
all_near (t ∷ ts) h (suc k) d lt = all_near ts (or_none _ _ h).1 k d (omega arith)

pub within_limits : (top : Members) → Faultless top → (range base per : ℕ)
    → integer_at (codes "range") (table_at (codes "medium") top) ≡ Some (pos range)
    → integer_at (codes "base") (table_at (codes "medium") top) ≡ Some (pos base)
    → integer_at (codes "per") (table_at (codes "medium") top) ≡ Some (pos per)
    → IsWithinLimits (record {
      places = map place_in (tables_at (codes "mote") top);
      range = range;
      base = base;
      per = per;
      losses = map loss_of (tables_at (codes "loss") top);
    })
within_limits top f range base per a b c =
    let medium = table_at (codes "medium") top in
    let few = few_motes top f in
    let as_many = length-map (tables_at (codes "mote") top) place_in in
    record {
      motes = omega (arith, few, as_many);
      places = all_near (tables_at (codes "mote") top) f.motes;
      range = natural_within 100000 (codes "range") medium range
          (number_kept (pos 0) (pos 100000) _ _ (keeps_all (version_of top) medium_rules medium f.medium 0 (lit< tt)
          refl)) a;
      base = natural_within 1000000 (codes "base") medium base
          (number_kept (pos 0) (pos 1000000) _ _ (keeps_all (version_of top) medium_rules medium f.medium 1 (lit< tt)
          refl)) b;
      per = natural_within 1000000 (codes "per") medium per
          (number_kept (pos 0) (pos 1000000) _ _ (keeps_all (version_of top) medium_rules medium f.medium 2 (lit< tt)
          refl)) c;
    }

pub early_end : (top : Members) → Faultless top → (n : ℕ) → integer_at (codes "end") top ≡ Some (pos n) → n ≤ latest_end
early_end top f n e = natural_within latest_end (codes "end") top n
    (number_kept (pos 0) (pos latest_end) _ _ (keeps_all (version_of top) top_rules top f.top 1 (lit< tt) refl)) e
