mod ReadTexts
mod Telling
mod Texts
