-- Laws of the places that this crate's functions answer. Assumes nothing.
use mathlib.Core.Path.{◌≡◌, refl, sym, ap, ◌∙◌}
use Rattle.std.specs.Prelude.{Option, None, Some}
use mathlib.Core.List.{List}
use Prim.Native.Nat.{ℕ, ◌+◌}
use native.Mathlib.Omega.{arith}
use lib.ListN.{get_or}
use Rattle.json_text.specs.Grammar.{string}
use Rattle.json_text.specs.Tight.{member, value}
use Rattle.json_text.specs.Skips.{WsTo, OnlyAt, EndsAt, WholeAt, NoText, Exact, Placed}
use Rattle.json_text.proofs.CharLaws.{exact_skips}
use Rattle.json_text.proofs.PlaceLaws.{ws_place, only_place, whole_place}
use Rattle.values.specs.declared.Next.{Next}
use Rattle.values.specs.declared.Next.TheVariants as next
use Rattle.values.specs.declared.Member.{Member}
use Rattle.values.specs.Places.{ClosedAt, Opens, MoreAt, NeitherAt, Follows, MemberAt, Finds}
use Rattle.values.proofs.ValueLaws.{value_headed, member_no_name, member_no_colon, member_goes}

-- what a member's places say of its text
name_ends_at : (s : List ℕ) (at e : ℕ) → OnlyAt string s at e → EndsAt string s at e
name_ends_at s at e p = exact_skips string s at (Some e) p

pub member_text_lem : (d : ℕ) (s : List ℕ) (at : ℕ) (m : Member) → MemberAt d s at m → WholeAt (member (value d)) s at m.value_end
member_text_lem d s at m p =
    let e = m.value_end in
    let n = name_ends_at s at m.name_end p.named in
    let g = member_goes (value d) (value_headed d) s at m.name_end p.colon n p.white m.value p.is p.spaces in
    let v = p.holds.text in
    record {
      text = record {
        from = omega (arith, g.from, v.from);
        within = v.within;
        is = g.leads.back _ v.is;
        only = λ r q z. v.only r (g.leads.to r q tt) z;
      };
      ends = p.holds.ends;
    }

-- ---- the needs of `member_at`

module _ (d : ℕ) (s : List ℕ) (at : ℕ) (x : Option ℕ) (name : Exact string s at x) where
  pub no_name : x ≡ None → NoText (member (value d)) s at
  no_name q = member_no_name (value d) (value_headed d) s at (exact_skips string s at None (rw q at name))

  module _ (n : ℕ) (is : x ≡ Some n) (c : ℕ) (w : WsTo s n c) where
    name_at_lem : EndsAt string s at n
    name_at_lem = exact_skips string s at (Some n) (rw is at name)

    pub no_colon : (get_or s c 0 ≡ 58 → ⊥) → NoText (member (value d)) s at
    no_colon f = member_no_colon (value d) (value_headed d) s at n c name_at_lem w f

    module _ (k : get_or s c 0 ≡ 58) (v : ℕ) (u : WsTo s (c + 1) v) (y : Option ℕ) (val : Placed (value d) s v y) where
      pub no_value : y ≡ None → NoText (member (value d)) s at
      unfolding NoText
      no_value q r p z =
          let g = member_goes (value d) (value_headed d) s at n c name_at_lem w v k u in
          let f : NoText (value d) s v = rw q at val in
          f r (g.leads.to r p tt) z

      pub member_found : (e : ℕ) → y ≡ Some e → MemberAt d s at (record { name = at; name_end = n; value = v; value_end = e })
      member_found e q = record {
        here = refl;
        named = rw is at name;
        colon = c;
        white = w;
        is = k;
        spaces = u;
        holds = rw q at val;
      }

-- ---- what is promised of an answer leaves one

closed_one : (s : List ℕ) (at close d e : ℕ) → ClosedAt s at close d → ClosedAt s at close e → d ≡ e
closed_one s at close d e p q = let k = ws_place s at p.bracket q.bracket p.white q.white in omega (arith, p.next, q.next)

-- one place has one byte
apart : (s : List ℕ) (i j c : ℕ) → i ≡ j → get_or s i 0 ≡ c → (get_or s j 0 ≡ c → ⊥) → ⊥
apart s i j c e p f = f (rw e at p)

pub opens_one : (s : List ℕ) (at close : ℕ) (x y : Next) → Opens s at close x → Opens s at close y → x ≡ y
opens_one s at close (next.Item i) (next.Item j) p q = ap next.Item (ws_place s (at + 1) i j p.white q.white)
opens_one s at close (next.Item i) (next.End e) p q =
    absurd (apart s q.bracket i close (ws_place s (at + 1) q.bracket i q.white p.white) q.is p.other)
opens_one s at close (next.End e) (next.Item i) p q =
    absurd (apart s p.bracket i close (ws_place s (at + 1) p.bracket i p.white q.white) p.is q.other)
opens_one s at close (next.End d) (next.End e) p q = ap next.End (closed_one s (at + 1) close d e p q)

module _ (s : List ℕ) (at close : ℕ) (other : close ≡ 44 → ⊥) where
  more_closed : (j e : ℕ) → MoreAt s at j → ClosedAt s at close e → ⊥
  more_closed j e p q =
      let k = ws_place s at q.bracket p.comma q.white p.white in other (sym q.is ∙ (rw k p.is))

  more_neither : (j : ℕ) → MoreAt s at j → NeitherAt s at close → ⊥
  more_neither j p q = apart s p.comma q.place 44 (ws_place s at p.comma q.place p.white q.white) p.is q.no_comma

  closed_neither : (e : ℕ) → ClosedAt s at close e → NeitherAt s at close → ⊥
  closed_neither e p q = apart s p.bracket q.place close (ws_place s at p.bracket q.place p.white q.white) p.is q.no_close

  more_one : (i j : ℕ) → MoreAt s at i → MoreAt s at j → i ≡ j
  more_one i j p q =
      let k = ws_place s at p.comma q.comma p.white q.white in
      ws_place s (q.comma + 1) i j (rw k at p.spaces) q.spaces

  pub follows_one : (x y : Option Next) → Follows s at close x → Follows s at close y → x ≡ y
  follows_one (Some (next.Item i)) (Some (next.Item j)) p q = ap (λ i. Some (next.Item i)) (more_one i j p q)
  follows_one (Some (next.Item i)) (Some (next.End e)) p q = absurd (more_closed i e p q)
  follows_one (Some (next.Item i)) None p q = absurd (more_neither i p q)
  follows_one (Some (next.End e)) (Some (next.Item j)) p q = absurd (more_closed j e q p)
  follows_one (Some (next.End d)) (Some (next.End e)) p q = ap (λ e. Some (next.End e)) (closed_one s at close d e p q)
  follows_one (Some (next.End e)) None p q = absurd (closed_neither e p q)
  follows_one None (Some (next.Item j)) p q = absurd (more_neither j q p)
  follows_one None (Some (next.End e)) p q = absurd (closed_neither e q p)
  follows_one None None p q = refl

unfoldable places : ℕ → ℕ → ℕ → ℕ → Member
places a b v e = record { name = a; name_end = b; value = v; value_end = e }

same_places : {a b v e a' b' v' e' : ℕ} → a ≡ a' → b ≡ b' → v ≡ v' → e ≡ e' → places a b v e ≡ places a' b' v' e'
same_places h k l m = cc

member_one : (d : ℕ) (s : List ℕ) (at : ℕ) (m n : Member) → MemberAt d s at m → MemberAt d s at n → m ≡ n
unfolding places
member_one d s at m n p q =
    let a : m.name ≡ n.name = p.here ∙ sym q.here in
    let b : m.name_end ≡ n.name_end = only_place string s at m.name_end n.name_end p.named q.named in
    let k : p.colon ≡ q.colon = ws_place s n.name_end p.colon q.colon (rw b at p.white) q.white in
    let v : m.value ≡ n.value = ws_place s (q.colon + 1) m.value n.value (rw k at p.spaces) q.spaces in
    let e : m.value_end ≡ n.value_end = whole_place (value d) s n.value m.value_end n.value_end (rw v at p.holds) q.holds in
    same_places a b v e

pub finds_one : (d : ℕ) (s : List ℕ) (at : ℕ) (x y : Option Member) → Finds d s at x → Finds d s at y → x ≡ y
unfolding NoText
finds_one d s at (Some m) (Some n) p q = ap Some (member_one d s at m n p q)
finds_one d s at (Some m) None p q = let t = member_text_lem d s at m p in absurd (q _ t.text.is t.ends)
finds_one d s at None (Some n) p q = let t = member_text_lem d s at n q in absurd (p _ t.text.is t.ends)
finds_one d s at None None p q = refl
