-- A tree, level by level, and lists and maps beside the members that they stand for.
use Rattle.std.proofs.Common.{◌≡◌, ℕ, List, [], ◌∷◌, ◌++◌, true, Ordering, Less, Equal, Greater, nat_cmp, Bor, refl, ap, ◌∙◌, rules}
use Rattle.std.specs.Cmp.Lexicographic.{slice_cmp}
use Rattle.std.specs.Ordering.{is_gt, match_ordering, ordering_reverse}
use Rattle.std.proofs.lemmas.Cmp.{nat_list_cmp_total}
use Rattle.std.specs.BTreeMap.{insert_entry}
use Rattle.serde_json.specs.Data.{Data, Members, no_members, member, array, object, put}
use Rattle.json_tree.specs.Gathered.{IsBelow, IsRising}
use Rattle.json_tree.specs.View.{view, items_view, members_view}
use Rattle.json_tree.specs.declared.tree.Tree.{Tree, Array, Object, the_lemmas}

abbrev pub Entry : Type 0
Entry = Bor (List ℕ) × Tree

pub view-Array : (v : Bor (List Tree)) → view (Array v) ≡ array (items_view v.now)
view-Array v = search (rules, the_lemmas)

pub view-Object : (v : Bor (List Entry)) → view (Object v) ≡ object (members_view v.now)
view-Object v = search (rules, the_lemmas)

-- ---- maps

members_view-match_ordering : (o : Ordering) (a b c : List Entry) → members_view (match_ordering o a b c) ≡ match_ordering o (members_view a) (members_view b) (members_view c)
members_view-match_ordering Less a b c = refl
members_view-match_ordering Equal a b c = refl
members_view-match_ordering Greater a b c = refl

abbrev pub name_cmp : Bor (List ℕ) → Bor (List ℕ) → Ordering
name_cmp k l = slice_cmp nat_cmp k.now l.now

pub members_view-insert_entry : (es : List Entry) (k : Bor (List ℕ)) (v : Tree) → members_view (insert_entry name_cmp es k v) ≡ put k.now (view v) (members_view es)
members_view-insert_entry [] k v = refl
members_view-insert_entry (e ∷ es) k v = members_view-match_ordering (name_cmp k e.0) _ _ _ ∙ rw (members_view-insert_entry es k v)

-- ---- members that rise

-- members before others
abbrev pub members_before : List Entry → Members → Members
members_before [] ms = ms
members_before (e ∷ es) ms = member e.0.now (view e.1) (members_before es ms)

pub members_before-more : (es : List Entry) (e : Entry) (ms : Members) → members_before (es ++ e ∷ []) ms ≡ members_before es (member e.0.now (view e.1) ms)
members_before-more [] e ms = refl
members_before-more (f ∷ es) e ms = ap (member f.0.now (view f.1)) (members_before-more es e ms)

pub members_before-none : (es : List Entry) → members_before es no_members ≡ members_view es
members_before-none [] = refl
members_before-none (e ∷ es) = ap (member e.0.now (view e.1)) (members_before-none es)

-- a name below those of members goes first
pub put_first : (k : List ℕ) (v : Tree) (ms : Members) → IsBelow k ms → put k (view v) ms ≡ member k (view v) ms
put_first k v no_members below = refl
put_first k v (member l d ms) below = rw below

-- the last part of members that rise does so too
pub rising_after : (es : List Entry) (ms : Members) → IsRising (members_before es ms) → IsRising ms
rising_after [] ms rising = rising
rising_after (e ∷ es) ms rising = rising_after es ms rising.1

below_put_at : (o : Ordering) (j k l : List ℕ) (d e : Data) (ms : Members) → slice_cmp nat_cmp j k ≡ Less → slice_cmp nat_cmp j l ≡ Less
    → IsBelow j (match_ordering o (member k d (member l e ms)) (member l d ms) (member l e (put k d ms)))
below_put_at Less j k l d e ms below first = below
below_put_at Equal j k l d e ms below first = first
below_put_at Greater j k l d e ms below first = first

below_put : (j k : List ℕ) (d : Data) (ms : Members) → slice_cmp nat_cmp j k ≡ Less → IsBelow j ms → IsBelow j (put k d ms)
below_put j k d no_members below first = below
below_put j k d (member l e ms) below first = below_put_at (slice_cmp nat_cmp k l) j k l d e ms below first

rising_put_at : (o : Ordering) (k l : List ℕ) (d e : Data) (ms : Members) → slice_cmp nat_cmp k l ≡ o → IsRising (member l e ms) → IsRising (put k d ms)
    → IsRising (match_ordering o (member k d (member l e ms)) (member l d ms) (member l e (put k d ms)))
rising_put_at Less k l d e ms is rising later = (is, rising)
rising_put_at Equal k l d e ms is rising later = rising
rising_put_at Greater k l d e ms is rising later =
    let less : slice_cmp nat_cmp l k ≡ Less = nat_list_cmp_total.antisymm l k ∙ ap ordering_reverse is in
    (below_put l k d ms less rising.0, later)

-- members that rise do so with one more
pub rising_put : (k : List ℕ) (d : Data) (ms : Members) → IsRising ms → IsRising (put k d ms)
rising_put k d no_members rising = (tt, tt)
rising_put k d (member l e ms) rising = rising_put_at (slice_cmp nat_cmp k l) k l d e ms refl rising (rising_put k d ms rising.1)

pub is_greater : (o : Ordering) → is_gt o ≡ true → o ≡ Greater
is_greater Less e = absurd (cc)
is_greater Equal e = absurd (cc)
is_greater Greater e = refl

-- a name above one is above each below that
pub above_lower : (k l m : List ℕ) → slice_cmp nat_cmp l m ≡ Less → slice_cmp nat_cmp k m ≡ Greater → slice_cmp nat_cmp k l ≡ Greater
above_lower k l m less above =
    let under : slice_cmp nat_cmp m k ≡ Less = nat_list_cmp_total.antisymm m k ∙ ap ordering_reverse above in
    nat_list_cmp_total.antisymm k l ∙ ap ordering_reverse (nat_list_cmp_total.trans l m k less under)
