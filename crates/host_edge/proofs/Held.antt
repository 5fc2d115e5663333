-- What is held under the names of a map's entries is what the map finds under them.
use Rattle.std.proofs.Common.{◌≡◌, ℕ, List, [], ◌∷◌, map, Some, String, BTreeMap, cond, string_bytes, refl, ap, sym, ◌∙◌}
use Rattle.std.specs.Ordering.{nat_cmp, eq_by_cmp}
use Rattle.std.specs.Cmp.Lexicographic.{slice_cmp}
use Rattle.std.specs.FinMap.{get, find, insert, get-from_entries, get-insert, same_map, slice_cmp-IsAntisymmetric, nat_cmp-IsAntisymmetric}
use Rattle.std.specs.BTreeMap.{get_by_text, is_at, UpdatesBy}
use Rattle.std.specs.Map.{lookup}
use Rattle.std.specs.Str.{bytes_eq}
use Rattle.std.specs.String.{string_cmp}
use Rattle.std.proofs.lemmas.Cmp.{nat_list_cmp_total, eq_by_cmp_equiv}
use Rattle.std.proofs.lemmas.Map.Text.{btree_map_updates_text, is_eq-slice_cmp}
use Rattle.host_edge.specs.Files.{files_of}

module _ {A : Type 0} where
  found : (entries : List (String A × List ℕ)) (name : List ℕ)
      → find (slice_cmp nat_cmp) name (map (λ e. (string_bytes e.0, e.1)) entries)
      ≡ lookup (is_at (λ k. slice_cmp nat_cmp name (string_bytes k))) entries
  found [] name = refl
  found (e ∷ entries) name = ap (cond (eq_by_cmp (slice_cmp nat_cmp) name (string_bytes e.0)) (Some e.1)) (found entries name)

  pub held : (m : BTreeMap (String A) (List ℕ)) (name : List ℕ) → get (files_of m.entries) name ≡ get_by_text m name
  held m name = get-from_entries nat_list_cmp_total _ name ∙ found m.entries name

  pub held_after : (m n : BTreeMap (String A) (List ℕ)) (name bytes : List ℕ)
      → UpdatesBy string_cmp (λ k. slice_cmp nat_cmp name (string_bytes k)) m n (Some bytes)
      → files_of n.entries ≡ insert (files_of m.entries) name bytes
  held_after m n name bytes updates =
      same_map nat_list_cmp_total (slice_cmp-IsAntisymmetric nat_cmp-IsAntisymmetric) _ _
      (λ q. held n q
      ∙ btree_map_updates_text name m n (Some bytes) updates q
      ∙ sym
      (get-insert nat_list_cmp_total (files_of m.entries) name bytes q
      ∙ ap (λ same. cond same (Some bytes) (get (files_of m.entries) q))
      ((eq_by_cmp_equiv nat_list_cmp_total).symm q name ∙ is_eq-slice_cmp name q)
      ∙ ap (cond (bytes_eq name q) (Some bytes)) (held m q)))
