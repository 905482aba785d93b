-- What stands in front of a seal, and whom it names.
use Rattle.std.proofs.Common.{◌≡◌, ℕ, List, ◌∷◌, ◌++◌, Option, Some, None, length, codes, refl, sym, ap, ◌∙◌, subst, arith}
use Rattle.std.specs.List.{join_with_byte}
use Rattle.std.specs.Option.{IfNone}
use Rattle.std.specs.Str.{IsUtf8}
use Rattle.hex.specs.Hex.{encode_lower, lower_digits}
use Rattle.farm_base.specs.declared.message.Message.{Message}
use Rattle.names.specs.Decimals.{Lacks}
use Rattle.names.specs.declared.number.NodeId.{NodeId}
use Rattle.names.proofs.TextLemmas.{Lacks-from_test, Lacks-middle, decimal-lacks, split_same}
use Rattle.protocol.specs.Hostile.{key_of}
use Rattle.seals.specs.Keyrings.{Keys, HasMac}
use Rattle.seals.specs.Macs.{hmac_sha256}
use Rattle.seals.specs.Seals.{with_mac}
use Rattle.seals.proofs.MacLemmas.{cut, length-mac}
use Rattle.words.proofs.Spelling.{node_same}
use Rattle.words.proofs.WordLemmas.{last_same}
use Rattle.words.specs.Words.{node_text}
use Rattle.farmwire.specs.declared.verb.Verb.{Verb}
use Rattle.farmwire.specs.declared.verb.Verb.TheVariants.{Hello, Acquire, Tenure, Commit, Release, Granted, Committed, Fenced, Denied, Recall, Fetch, Blob}
use Rattle.farmwire.specs.Lawful.{IsLawful, IsNode}
use Rattle.farmwire.specs.Lines.{message_text, message_words}
use Rattle.farmwire.specs.Sealed.{IsSpelled, IsSealed, IsUnder, Names, unsealed}
use Rattle.farmwire.specs.Words.{verb_text, Says}
use Rattle.farmwire.proofs.EndLemmas.{hex_lacks}
use Rattle.farmwire.proofs.Spelling.{node_fits}
use Rattle.farmwire.proofs.SpelledLemmas.{saying, utf8-from_spelled}

-- ---- what stands before a MAC or a dash

mac_lacks : (key text : List ℕ) → Lacks 32 (encode_lower (hmac_sha256 key text))
mac_lacks key text = hex_lacks 32 (λ e. omega arith) (Lacks-from_test 32 lower_digits refl) (hmac_sha256 key text)

dash_lacks : Lacks 32 (codes "-")
dash_lacks = Lacks-from_test 32 (codes "-") refl

-- a MAC is no dash
pub no_dash : (key s t line : List ℕ) → line ≡ with_mac key s → line ≡ unsealed t → ⊥
no_dash key s t line mac dash =
    let same = last_same 32 s t (encode_lower (hmac_sha256 key s)) (codes "-") (sym mac ∙ dash) (mac_lacks key s) dash_lacks in
    let one : length (encode_lower (hmac_sha256 key s)) ≡ 1 = ap length same.1 in
    omega (arith, length-mac key s)

pub unsealed_same : (s t : List ℕ) → unsealed s ≡ unsealed t → s ≡ t
unsealed_same s t e = (last_same 32 s t (codes "-") (codes "-") e dash_lacks dash_lacks).0

pub mac_same : (key other line s t : List ℕ) → line ≡ with_mac key s → line ≡ with_mac other t → s ≡ t
mac_same key other line s t hs ht = sym (cut key line s hs).0 ∙ (cut other line t ht).0

-- the text of a line is determined, whatever the keys
pub under_same : (keys others : Keys) (one other : Option NodeId) (s t line : List ℕ) → IsUnder keys one s line → IsUnder others other t line → s ≡ t
under_same keys others (Some n) (Some m) s t line hs ht = mac_same hs.key ht.key line s t hs.sealed ht.sealed
under_same keys others (Some n) None s t line hs ht = absurd (no_dash hs.key s t line hs.sealed ht)
under_same keys others None (Some m) s t line hs ht = absurd (no_dash ht.key t s line ht.sealed hs)
under_same keys others None None s t line hs ht = unsealed_same s t (sym hs ∙ ht)

-- and so is the line of a text, under these keys
pub line_same : (keys : Keys) (owner : Option NodeId) (text line other : List ℕ) → IsUnder keys owner text line → IsUnder keys owner text other → line ≡ other
line_same keys (Some n) text line other h k =
    let same : h.key ≡ k.key = cc (h.known, k.known) in
    h.sealed ∙ ap (λ key. with_mac key text) same ∙ sym k.sealed
line_same keys None text line other h k = h ∙ sym k

-- ---- whom a text names

pub names_same : (text : List ℕ) (a b : NodeId) → Names text a → Names text b → a ≡ b
names_same text a b ha hb =
    let first = split_same 32 ha.verb hb.verb (node_text a ++ 32 ∷ ha.behind) (node_text b ++ 32 ∷ hb.behind) (sym ha.text_is ∙ hb.text_is) ha.first hb.first in
    let fits_a = node_fits a ha.is_node in
    let fits_b = node_fits b hb.is_node in
    let second = split_same 32 (node_text a) (node_text b) ha.behind hb.behind first.1
    (decimal-lacks 32 a.0 (omega (arith, fits_a)) (omega arith)) (decimal-lacks 32 b.0 (omega (arith, fits_b)) (omega arith)) in
    node_same a b fits_a fits_b second.0

verb_lacks : (v : Verb) → Lacks 32 (verb_text v)
verb_lacks Hello = Lacks-from_test 32 (verb_text Hello) refl
verb_lacks Acquire = Lacks-from_test 32 (verb_text Acquire) refl
verb_lacks Tenure = Lacks-from_test 32 (verb_text Tenure) refl
verb_lacks Commit = Lacks-from_test 32 (verb_text Commit) refl
verb_lacks Release = Lacks-from_test 32 (verb_text Release) refl
verb_lacks Granted = Lacks-from_test 32 (verb_text Granted) refl
verb_lacks Committed = Lacks-from_test 32 (verb_text Committed) refl
verb_lacks Fenced = Lacks-from_test 32 (verb_text Fenced) refl
verb_lacks Denied = Lacks-from_test 32 (verb_text Denied) refl
verb_lacks Recall = Lacks-from_test 32 (verb_text Recall) refl
verb_lacks Fetch = Lacks-from_test 32 (verb_text Fetch) refl
verb_lacks Blob = Lacks-from_test 32 (verb_text Blob) refl

-- a text of a verb, a node and more names the node
named_by : (m : Message) (v : Verb) (behind : List (List ℕ)) (n : NodeId) (word : List ℕ) (more : List (List ℕ)) → IsUtf8 (message_text m) → IsNode n
    → message_words m ≡ verb_text v ∷ behind → behind ≡ node_text n ∷ word ∷ more → Names (message_text m) n
named_by m v behind n word more utf8 is words behind_is = record {
  verb = verb_text v;
  behind = join_with_byte 32 (word ∷ more);
  utf8 = utf8;
  is_node = is;
  first = verb_lacks v;
  text_is = ap (join_with_byte 32) (words ∙ ap (λ ws. verb_text v ∷ ws) behind_is);
}

-- whose key it is
owner_is : (m other : Message) (n owner : NodeId) → key_of m ≡ Some n → m ≡ other → key_of other ≡ Some owner → owner ≡ n
owner_is m other n owner key same is = (let e : Some owner ≡ Some n = sym is ∙ sym (ap key_of same) ∙ key in cc e)

no_owner : (m other : Message) (n : NodeId) → key_of m ≡ Some n → m ≡ other → key_of other ≡ None → ⊥
no_owner m other n key same is = (let e : ◌≡◌ {A = Option NodeId} None (Some n) = sym is ∙ sym (ap key_of same) ∙ key in absurd (cc e))

-- the text of a message that stands under a node's key names this node
pub names_owner : (m : Message) → IsLawful m → (n : NodeId) → key_of m ≡ Some n → Names (message_text m) n
names_owner m lawful n key =
    let s = saying m lawful in
    by s.verb s.behind s.words_are s.says
  where
    utf8 : IsUtf8 (message_text m)
    utf8 = utf8-from_spelled (message_text m) m (record { lawful = lawful; text = refl })

    by : (v : Verb) (ws : List (List ℕ)) → message_words m ≡ verb_text v ∷ ws → Says v ws m → Names (message_text m) n
    by Hello ws are h = subst (Names (message_text m)) (owner_is m _ n h.node key h.message refl) (named_by m Hello ws h.node _ _ utf8 h.is_node are h.text)
    by Acquire ws are h = subst (Names (message_text m)) (owner_is m _ n h.node key h.message refl) (named_by m Acquire ws h.node _ _ utf8 h.is_node are h.text)
    by Tenure ws are h = subst (Names (message_text m)) (owner_is m _ n h.node key h.message refl) (named_by m Tenure ws h.node _ _ utf8 h.is_node are h.text)
    by Commit ws are h = subst (Names (message_text m)) (owner_is m _ n h.node key h.message refl) (named_by m Commit ws h.node _ _ utf8 h.is_node are h.text)
    by Release ws are h = subst (Names (message_text m)) (owner_is m _ n h.node key h.message refl) (named_by m Release ws h.node _ _ utf8 h.is_node are h.text)
    by Granted ws are h = subst (Names (message_text m)) (owner_is m _ n h.node key h.message refl) (named_by m Granted ws h.node _ _ utf8 h.is_node are h.text)
    by Committed ws are h = subst (Names (message_text m)) (owner_is m _ n h.node key h.message refl) (named_by m Committed ws h.node _ _ utf8 h.is_node are h.text)
    by Fenced ws are h = subst (Names (message_text m)) (owner_is m _ n h.node key h.message refl) (named_by m Fenced ws h.node _ _ utf8 h.is_node are h.text)
    by Denied ws are h = subst (Names (message_text m)) (owner_is m _ n h.node key h.message refl) (named_by m Denied ws h.node _ _ utf8 h.is_node are h.text)
    by Recall ws are h = subst (Names (message_text m)) (owner_is m _ n h.node key h.message refl) (named_by m Recall ws h.node _ _ utf8 h.is_node are h.text)
    by Fetch ws are h = absurd (no_owner m _ n key h.message refl)
    by Blob ws are h = absurd (no_owner m _ n key h.message refl)

-- ---- where there is none

pub none_then : {T P Q : Type 0} (o : Option T) → (P → Q) → IfNone o P → IfNone o Q
none_then None f h = f h
none_then (Some x) f h = tt

pub no_first : (text : List ℕ) → Lacks 32 text → (n : NodeId) → Names text n → ⊥
no_first text lacks n h = Lacks-middle 32 h.verb (node_text n ++ 32 ∷ h.behind) (subst (Lacks 32) h.text_is lacks)

pub no_second : (text verb behind : List ℕ) → text ≡ verb ++ 32 ∷ behind → Lacks 32 verb → Lacks 32 behind → (n : NodeId) → Names text n → ⊥
no_second text verb behind e first lacks n h =
    let parts = split_same 32 verb h.verb behind (node_text n ++ 32 ∷ h.behind) (sym e ∙ h.text_is) first h.first in
    Lacks-middle 32 (node_text n) h.behind (subst (Lacks 32) parts.1 lacks)

pub second_word : (text verb behind word more : List ℕ) → text ≡ verb ++ 32 ∷ behind → Lacks 32 verb → behind ≡ word ++ 32 ∷ more → Lacks 32 word → (n : NodeId)
    → Names text n → word ≡ node_text n
second_word text verb behind word more e first f lacks n h =
    let parts = split_same 32 verb h.verb behind (node_text n ++ 32 ∷ h.behind) (sym e ∙ h.text_is) first h.first in
    let fits = node_fits n h.is_node in
    (split_same 32 word (node_text n) more h.behind (sym f ∙ parts.1) lacks (decimal-lacks 32 n.0 (omega (arith, fits)) (omega arith))).0

-- a line that has this text under the key of the node that it names, and no message of that text under this key
pub none_sealed : (keys : Keys) (line text : List ℕ) (node : NodeId) → Names text node → HasMac keys node text line
    → ((m : Message) → IsSpelled text m → key_of m ≡ Some node → ⊥) → (m : Message) → IsSealed keys line m → ⊥
none_sealed keys line text node named mac none m s = by (key_of m) refl s.text
  where
    by : (o : Option NodeId) → key_of m ≡ o → IsUnder keys o (message_text m) line → ⊥
    by None e dash = no_dash mac.key text (message_text m) line mac.sealed dash
    by (Some n) e other =
        let same : message_text m ≡ text = mac_same other.key mac.key line (message_text m) text other.sealed mac.sealed in
        let is : n ≡ node = names_same text n node (subst (λ t. Names t n) same (names_owner m s.lawful n e)) named in
        none m (record { lawful = s.lawful; text = sym same }) (e ∙ ap Some is)

-- and the same of a dash
pub none_unsealed : (keys : Keys) (line text : List ℕ) → line ≡ unsealed text → ((m : Message) → IsSpelled text m → key_of m ≡ None → ⊥) → (m : Message)
    → IsSealed keys line m → ⊥
none_unsealed keys line text line_is none m s = by (key_of m) refl s.text
  where
    by : (o : Option NodeId) → key_of m ≡ o → IsUnder keys o (message_text m) line → ⊥
    by None e dash =
        let same : message_text m ≡ text = unsealed_same (message_text m) text (sym dash ∙ line_is) in
        none m (record { lawful = s.lawful; text = sym same }) e
    by (Some n) e mac = no_dash mac.key (message_text m) text line mac.sealed line_is
