use Rattle.crush_laws.proofs.OneOfBoth.{words_are_judged_by_the_table, a_flaw_excludes_the_map, at_most_one_flaw, flaws_say_what_is_expected, each_word_goes_on, no_other_word, same_words_same_flaw, at_most_one_map, a_map_or_a_flaw}
use Rattle.crush_laws.proofs.Keeps.{each_map_is_lawful}
use Rattle.crush_laws.proofs.LawfulTexts.{maps_are_the_lawful_texts}
use Rattle.crush_laws.proofs.FinalTexts.{maps_are_the_lawful_ends}
use Rattle.crush_laws.proofs.texts.a_text_has_one_map_or_one_flaw.Goals as goal

pub returns-clause-table : goal.returns-clause-table
returns-clause-table c = words_are_judged_by_the_table

pub returns-clause-excludes : goal.returns-clause-excludes
returns-clause-excludes c = a_flaw_excludes_the_map

pub returns-clause-flaw : goal.returns-clause-flaw
returns-clause-flaw c = at_most_one_flaw

pub returns-clause-says : goal.returns-clause-says
returns-clause-says c = flaws_say_what_is_expected

pub returns-clause-expected : goal.returns-clause-expected
returns-clause-expected c = each_word_goes_on

pub returns-clause-only : goal.returns-clause-only
returns-clause-only c = no_other_word

pub returns-clause-same : goal.returns-clause-same
returns-clause-same c = same_words_same_flaw

pub returns-clause-map : goal.returns-clause-map
returns-clause-map c = at_most_one_map

pub returns-clause-lawful : goal.returns-clause-lawful
returns-clause-lawful c = each_map_is_lawful

pub returns-clause-admitted : goal.returns-clause-admitted
returns-clause-admitted c = maps_are_the_lawful_texts

pub returns-clause-ends : goal.returns-clause-ends
returns-clause-ends c = maps_are_the_lawful_ends

pub returns-clause-either : goal.returns-clause-either
returns-clause-either c = a_map_or_a_flaw
