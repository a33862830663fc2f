mod ListLaws
mod CodeTexts
