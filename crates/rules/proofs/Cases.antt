-- The P cases of document 01, its whole session, and rows for requests 2.1 and 2.3: one statement over the rows of the table. Assumes nothing.
use mathlib.Core.Path.{◌≡◌, refl}
use mathlib.Core.List.{List, [], ◌∷◌, map}
use Rattle.rules.specs.Settings.{within, elements, covers}
use Rattle.rules.specs.Line.{zeros, bytes_of, value_of, edit, value_at}
use Rattle.rules.specs.Call.{filled, number_in, refused}
use Rattle.rules.specs.Seen.{further, dropped, any, count, needs, accepted}
use Rattle.rules.specs.Refusal.{unless, is_width, lacks, asked_refusal, state_refusal, place_refusal, write_refusal, line_refusal, marked_refusal, act_refusal, list_refusal, refusal}
use Rattle.rules.specs.Figure3.{empty_cache, is_in, is_free, holds, other_way, way_for, placed, use_line, unless_gone, forget, cache_step}
use Rattle.rules.specs.Plain.{play, play_group, play_all, touches, touched_in, origin_in, pages_in, newest, plain_seen, fresh, add_write, plain_step, plain_facts, plain_refusal, fresh_model, act_step, item_refusals, after_items, model_answer, model_step, answers_from, Each}
use Rattle.rules.specs.Cases.{rows, ample, is_ok, oks_of, noes_of, played}

pub cases : map played rows ≡ rows
unfolding within elements covers zeros bytes_of value_of edit value_at filled number_in refused further dropped any count needs accepted unless is_width lacks asked_refusal state_refusal place_refusal write_refusal line_refusal marked_refusal act_refusal list_refusal refusal empty_cache is_in is_free holds other_way way_for placed use_line unless_gone forget cache_step play play_group play_all touches touched_in origin_in pages_in newest plain_seen fresh add_write plain_step plain_facts plain_refusal fresh_model act_step item_refusals after_items model_answer model_step answers_from rows ample is_ok oks_of noes_of played
cases = refl

-- so at each row,
each-fixed : {A : Type 0} (f : A → A) (xs : List A) → map f xs ≡ xs → Each (λ x. f x ≡ x) xs
each-fixed f [] e = tt
each-fixed f (x ∷ xs) e = (cc, each-fixed f xs (cc))

pub each-case : Each (λ r. played r ≡ r) rows
each-case = each-fixed played rows cases

-- and each row's reset is accepted.
pub each-reset : Each (λ r. asked_refusal ample r.asked ≡ 0) rows
unfolding within elements covers unless asked_refusal rows ample
each-reset = (refl, (refl, (refl, (refl, (refl, (refl, (refl, (refl, (refl, (refl, (refl, (refl, (refl, (refl, tt))))))))))))))
